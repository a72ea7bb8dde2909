pub mod Tables
pub mod View
pub mod Turns
