pub mod Timing
pub mod private
