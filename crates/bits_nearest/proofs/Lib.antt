pub mod Words
pub mod Steps
