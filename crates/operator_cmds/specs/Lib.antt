pub mod Switched
pub mod private
pub use Rattle.sync_ql.specs.Switches
