pub mod Depth
pub mod Finding
