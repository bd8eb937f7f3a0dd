-- What no public clause rests on: who reads contracts alone need not read it.
pub mod Examples
pub mod FormSeen
pub mod Work
