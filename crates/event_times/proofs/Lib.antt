pub mod EventTimes
pub mod EventCut
pub mod Followed
pub mod Ascending
