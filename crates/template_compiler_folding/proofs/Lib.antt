pub mod Pairs
pub mod Settling
pub mod Along
pub mod Chains
pub mod Joined
