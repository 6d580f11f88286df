pub mod Outline
pub mod Promises
