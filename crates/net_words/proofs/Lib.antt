pub mod DistinctInputs
pub mod PlaceLemmas
pub mod WordLaws
pub mod FitLaws
pub mod SplitWords
pub mod NewElements
