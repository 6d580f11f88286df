pub mod Lowest
pub mod Given
pub mod Found
