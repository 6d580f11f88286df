pub mod WordsStepping
pub mod Stepping
