pub mod Words
pub mod Rows
pub mod EventText
pub mod Refusal
pub mod CaseRows
pub mod CaseText
pub mod private
