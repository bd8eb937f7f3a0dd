pub mod PlanText
pub mod IsPlanText
pub mod Writing
pub mod Spelling
pub mod private
