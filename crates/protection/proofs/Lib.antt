mod OutputLemmas
mod MarkLemmas
mod WalkLemmas
mod TallyLemmas
mod SharedLaws
mod TreeLemmas
mod FoundLaws
pub mod GapLaws
