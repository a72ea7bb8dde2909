pub mod Digits
pub mod Placed
pub mod SameId
pub mod SameBytes
pub mod Readings
