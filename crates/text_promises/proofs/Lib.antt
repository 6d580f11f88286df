pub mod Nesting
pub mod Ends
pub mod Reading
pub mod Writing
pub mod Promises
