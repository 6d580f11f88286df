pub mod Strings
pub mod Bits
