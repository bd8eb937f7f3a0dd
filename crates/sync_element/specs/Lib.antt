pub mod Configured
pub mod ElementState
pub mod StandsFor
pub mod StandsAfter
pub mod Due
pub mod Kept
pub mod Whole
pub mod private
