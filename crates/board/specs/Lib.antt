pub mod Boards
pub mod Changes
pub mod Drives
pub mod Tables
pub mod Told
