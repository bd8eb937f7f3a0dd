pub mod HalfLemmas
pub mod LineCuts
pub mod TopicLemmas
pub mod Cuts
pub mod Taking
pub mod ReadOn
