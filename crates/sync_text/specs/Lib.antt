pub mod Number
pub mod Kept
pub mod Gives
pub mod Chain
pub mod Each
pub mod Tests
pub mod private
