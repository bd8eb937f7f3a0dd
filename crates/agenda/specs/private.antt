-- What no public clause rests on: who reads contracts alone need not read it.
pub mod DueTimesKept
pub mod EarlierDue
pub mod MarkedKept
pub mod Tournament
