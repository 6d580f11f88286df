pub mod Lists
pub mod Entries
