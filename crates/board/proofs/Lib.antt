pub mod Rereads
pub mod Changes
mod Drives
mod Tables
