-- What no public clause rests on: who reads contracts alone need not read it.
pub mod Examples
pub mod FirstFall
pub mod Ranks
pub mod RowsTaken
pub mod Written
