pub mod Names
pub mod Pieces
