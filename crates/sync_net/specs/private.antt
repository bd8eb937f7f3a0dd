-- What no public clause rests on: who reads contracts alone need not read it.
pub mod Beginning
pub mod Copied
pub mod Hearing
pub mod Kept
pub mod NetKept
pub mod NetStep
pub mod Noted
pub mod Noting
pub mod PartSteps
pub mod SourceLevels
pub mod SharedElements
pub mod SharedLines
pub mod Stages
pub mod Steps
pub mod Taking
pub mod Telling
pub mod Whole
