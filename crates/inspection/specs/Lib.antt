pub mod Verdict
pub mod Commands
pub mod Inspection
pub mod private
