pub mod ValueFacts
pub mod EntryFacts
pub mod RowsSoFar
