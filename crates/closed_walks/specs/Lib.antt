pub mod Taking
pub mod Traces
pub mod Following
pub mod Loops
pub mod Within
pub mod WalkText
pub mod private
