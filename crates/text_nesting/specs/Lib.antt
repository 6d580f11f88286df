pub mod Nesting
pub mod Numbers
