pub mod Choices
pub mod Table
pub mod private
pub use Rattle.sync_ql.specs.Selection
