pub mod Records
pub mod Fields
pub mod FirstRefusal
pub mod Stream
pub mod private
