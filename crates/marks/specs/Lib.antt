pub mod Marking
pub mod View
pub mod Written
pub mod Lawful
