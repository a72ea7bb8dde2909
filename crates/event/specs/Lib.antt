pub mod Bytes
pub mod Sources
pub mod Refusals
pub mod Identifiers
pub mod Delays
pub mod View
pub mod Outcomes
