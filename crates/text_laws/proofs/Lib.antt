pub mod Nodes
pub mod Back
pub mod Reading
pub mod Limits
pub mod Places
pub mod Bytes
