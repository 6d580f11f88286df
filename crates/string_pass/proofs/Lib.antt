pub mod Falls
pub mod Bits
pub mod Heights
pub mod Passing
