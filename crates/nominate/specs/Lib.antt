pub mod HopCount
pub mod LocalFacts
pub mod Nomination
pub mod private
