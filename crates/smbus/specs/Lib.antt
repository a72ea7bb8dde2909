pub mod Packets
pub mod Stored
pub mod Seen
pub mod Lying
pub mod Joins
