pub mod Now
pub mod Taking
pub mod private
