pub mod Appending
pub mod Writing
