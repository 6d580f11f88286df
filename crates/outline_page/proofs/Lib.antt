pub mod Root
pub mod Outlining
pub mod Promises
