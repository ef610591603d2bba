pub mod Chains
pub mod Coded
pub mod Ends
pub mod Own
pub mod Calls
pub mod Passing
pub mod Filters
pub mod Begun
