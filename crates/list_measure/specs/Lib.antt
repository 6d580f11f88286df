pub mod Levels
pub mod Cursors
pub mod Numbers
