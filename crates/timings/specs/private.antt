-- What no public clause rests on: who reads contracts alone need not read it.
pub mod Ends
pub mod Examples
