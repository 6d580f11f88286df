pub mod Pieces
pub mod Samples
