pub mod Checks
pub mod Messages
pub mod Requests
pub mod Writing
pub mod Laws
pub mod View
