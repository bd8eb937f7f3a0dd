-- What no public clause rests on: who reads contracts alone need not read it.
pub mod AtBase
pub mod Base
pub mod Branching
pub mod Cases
pub mod Chunks
pub mod Counts
pub mod CountsKept
pub mod Examples
pub mod Rows
pub mod ShownNow
pub mod Spells
pub mod Study
pub mod Timed
pub mod Working
