pub mod Saying
pub mod Within
pub mod Ones
pub mod Zeros
pub mod Pieces
pub mod Blanks
