pub mod EightBytes
pub mod Numbers
