pub mod Passed
pub mod Numbers
pub mod Lengths
pub mod Back
pub mod Only
pub mod Steps
mod Bodies
mod Headers
