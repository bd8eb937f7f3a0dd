pub mod Words
pub mod LastParts
pub mod Report
pub mod private
