pub mod Sameness
pub mod Words
