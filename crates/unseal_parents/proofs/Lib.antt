pub mod Spreading
pub mod Weaving
