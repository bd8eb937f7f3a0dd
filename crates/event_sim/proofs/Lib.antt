pub mod RowLaws
pub mod NotingLaws
pub mod BoundLaws
pub mod RunLaws
pub mod LaterRows
pub mod Reached
