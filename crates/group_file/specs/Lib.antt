pub mod Kinds
pub mod Rows
pub mod GroupText
pub mod Refusal
pub mod private
