pub mod Decides
pub mod Parts
