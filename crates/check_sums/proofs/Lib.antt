pub mod Checking
pub mod Wrong
