pub mod Cuts
pub mod Rows
pub mod Values
