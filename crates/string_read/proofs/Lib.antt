pub mod Leftover
pub mod Writing
