pub mod Stepping
pub mod Conditions
pub mod Steps
