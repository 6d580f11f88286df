pub mod Heading
pub mod Counting
