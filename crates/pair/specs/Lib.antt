pub mod Receipts
pub mod View
pub mod Runs
pub mod Fair
