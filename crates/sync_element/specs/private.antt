-- What no public clause rests on: who reads contracts alone need not read it.
pub mod FirstTime
pub mod Fitting
pub mod Kept
pub mod Renewing
pub mod Starting
pub mod Telling
pub mod Whole
