pub mod Passing
pub mod Promises
pub mod NoMetres
pub mod Root
pub mod SomeTree
pub mod Faults
pub mod FaultyBlocks
