pub mod Faults
pub mod Contents
pub mod Transfers
pub mod Memory
pub mod Real
pub mod private
pub use Rattle.sync_text.specs.Number
