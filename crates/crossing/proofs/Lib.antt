pub mod Firsts
pub mod Marked
pub mod Short
pub mod Shown
