pub mod Ranked
pub mod Repeats
pub mod Mosts
pub mod Chained
pub mod Agreed
pub mod private
