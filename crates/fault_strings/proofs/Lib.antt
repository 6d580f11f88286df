pub mod Giving
pub mod Finding
pub mod Lowest
