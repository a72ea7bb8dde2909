pub mod Rows
pub mod Fresh
pub mod Questions
pub mod Answered
pub mod Picked
