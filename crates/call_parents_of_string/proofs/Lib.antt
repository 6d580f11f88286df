pub mod Answers
pub mod Ending
