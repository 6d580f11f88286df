pub mod Levels
pub mod Numbers
pub mod Cursors
