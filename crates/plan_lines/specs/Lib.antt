pub mod Plain
pub mod private
