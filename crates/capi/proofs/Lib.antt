pub mod Results
pub mod Boards
pub mod Read
pub mod Sent
pub mod Asked
