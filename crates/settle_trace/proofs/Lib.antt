pub mod Messages
pub mod LineLaws
pub mod ElementLaws
pub mod NetLaws
pub mod TakenLaws
pub mod TracedNow
