pub mod NodeRow
pub mod Topic
pub mod NodeFile
pub mod Cutting
pub mod Refusal
pub mod private
