pub mod Lit
pub mod Byte
