pub mod Numbering
pub mod Starting
