-- What no public clause rests on: who reads contracts alone need not read it.
pub mod Ends
pub mod Examples
pub mod Held
pub mod Hops
pub mod Indexed
pub mod Kept
pub mod Lines
pub mod Naming
pub mod RanksExamples
pub mod Steps
pub mod Wired
