pub mod Decimals
pub mod Ranges
pub mod Options
pub mod PutRows
pub mod Failures
pub mod Each
pub mod Tests
