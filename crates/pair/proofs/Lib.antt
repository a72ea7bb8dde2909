pub mod Calls
pub mod Parts
pub mod Loops
pub mod Fairness
pub mod Both
