pub mod Crossing
pub mod Outcomes
pub mod Reading
