pub mod Numbering
pub mod Sampling
