pub mod Pieces
pub mod Placing
