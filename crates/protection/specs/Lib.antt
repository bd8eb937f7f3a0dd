pub mod Gaps
pub mod Orderly
pub mod Protected
pub mod private
