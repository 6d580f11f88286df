pub mod BytesStepping
pub mod Stepping
