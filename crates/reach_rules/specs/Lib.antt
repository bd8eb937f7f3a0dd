pub mod Chains
pub mod Ways
pub mod Reaching
pub mod Protection
pub mod Agreement
pub mod Survival
pub mod Failing
pub mod private
