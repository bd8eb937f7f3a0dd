pub mod Taking
pub mod CaseNames
pub mod CaseRowLaws
pub mod Sorting
pub mod CaseTaking
