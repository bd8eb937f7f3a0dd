pub mod EventTimes
pub mod private
