-- What no public clause rests on: who reads contracts alone need not read it.
pub mod CaseExamples
pub mod CasesTaken
pub mod Examples
pub mod Rows
pub mod Taken
