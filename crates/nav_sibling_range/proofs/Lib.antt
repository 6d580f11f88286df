pub mod Counting
pub mod Own
pub mod Near
