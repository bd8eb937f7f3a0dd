pub mod Ranges
pub mod LadderLinks
pub mod LadderPlan
pub mod RowLaws
pub mod LadderText
