pub mod DueTimes
pub mod Marked
pub mod Called
pub mod EarlierDue
pub mod DueTimesKept
pub mod MarkedKept
pub mod private
