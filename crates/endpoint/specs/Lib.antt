pub mod View
pub mod States
pub mod Sending
