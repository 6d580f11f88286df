pub mod Filled
pub mod Passes
