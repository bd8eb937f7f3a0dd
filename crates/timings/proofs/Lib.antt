pub mod TimingLemmas
pub mod EndsLemmas
pub mod FoundLemmas
