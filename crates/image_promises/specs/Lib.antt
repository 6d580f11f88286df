pub mod Promises
pub mod Faults
