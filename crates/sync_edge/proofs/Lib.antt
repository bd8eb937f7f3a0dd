pub mod SoFar
pub mod InMemory
