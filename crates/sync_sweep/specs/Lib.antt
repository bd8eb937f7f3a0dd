pub mod Cases
pub mod Outcomes
pub mod Sweep
pub mod SweepText
pub mod OnWay
pub mod Study
pub mod StudyText
pub mod private
