mod Shown
pub mod Lists
pub mod Listing
pub mod Parts
pub mod Sizes
pub mod Writers
pub mod Lawful
