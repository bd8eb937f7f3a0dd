pub mod Lines
pub mod Hops
pub mod Chains
pub mod Gaps
pub mod Bounds
pub mod private
