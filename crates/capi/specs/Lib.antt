pub mod Reading
pub mod Packing
pub mod Runs
