mod Stepped
mod Words
pub mod Buffers
mod ItemLists
pub mod Frames
pub mod RequestsBack
pub mod MessagesBack
