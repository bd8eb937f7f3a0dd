pub mod FollowLaws
pub mod Rings
pub mod KnownLaws
pub mod LoopLaws
pub mod OneList
pub mod WithinLaws
pub mod OneEndings
