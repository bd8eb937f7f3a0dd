pub mod Beating
pub mod Eligible
pub mod FirstBest
pub mod BestChoice
pub mod ManualSwitch
pub mod OneOption
