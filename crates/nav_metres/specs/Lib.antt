pub mod Presence
