pub mod Format
pub mod Rules
pub mod Rows
pub mod Refusal
pub mod Gives
pub mod Slots
pub mod Values
pub mod private
