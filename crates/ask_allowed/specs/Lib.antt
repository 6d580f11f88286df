pub mod Asked
pub mod Kinds
