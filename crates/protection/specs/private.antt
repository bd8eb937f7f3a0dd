-- What no public clause rests on: who reads contracts alone need not read it.
pub mod Kinds
pub mod OrderlyExamples
pub mod Parts
pub mod Searched
pub mod Tree
pub mod Trying
pub mod Walking
