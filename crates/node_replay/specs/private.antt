-- What no public clause rests on: who reads contracts alone need not read it.
pub mod Collecting
pub mod Keeping
pub mod NodeKept
pub mod ReplayKept
pub mod Running
pub mod Starting
pub mod Telling
pub mod Turning
