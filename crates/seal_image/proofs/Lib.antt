pub mod Preparing
pub mod Filled
