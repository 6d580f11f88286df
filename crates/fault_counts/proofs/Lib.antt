pub mod Wrong
pub mod Kept
