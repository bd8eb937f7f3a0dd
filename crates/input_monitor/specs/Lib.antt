pub mod Monitored
pub mod StandsFor
pub mod Ending
pub mod private
pub use Rattle.sync_ql.specs.Condition
