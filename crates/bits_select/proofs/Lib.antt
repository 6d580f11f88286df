pub mod Reaching
pub mod Lanes
