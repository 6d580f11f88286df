pub mod Lanes
pub mod Zeros
pub mod Counts
pub mod Sums
pub mod Stored
