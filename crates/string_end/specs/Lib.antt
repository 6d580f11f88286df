pub mod Ends
pub mod Numbers
