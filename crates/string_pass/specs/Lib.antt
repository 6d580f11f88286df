pub mod Falls
pub mod Heights
pub mod Passes
