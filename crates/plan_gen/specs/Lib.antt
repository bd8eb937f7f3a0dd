pub mod Ladder
pub mod private
