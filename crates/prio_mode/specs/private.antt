-- What no public clause rests on: who reads contracts alone need not read it.
pub mod PriorityHops
pub mod Running
pub mod Visiting
