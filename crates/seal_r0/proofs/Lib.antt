pub mod Gapping
pub mod Following
pub mod Running
pub mod Parting
