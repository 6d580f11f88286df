pub mod Parts
pub mod Telling
