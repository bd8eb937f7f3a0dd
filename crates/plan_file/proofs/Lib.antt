pub mod FirstBroken
pub mod PlanLaws
pub mod NameText
pub mod SpelledLines
pub mod Puts
pub mod WrittenPlan
pub mod SpelledPlan
pub mod Versions
