pub mod Values
pub mod Table
pub mod Byte
pub mod Counting
