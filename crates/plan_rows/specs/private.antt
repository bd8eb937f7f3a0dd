-- What no public clause rests on: who reads contracts alone need not read it.
pub mod Gives
pub mod Rows
pub mod Slots
pub mod Values
