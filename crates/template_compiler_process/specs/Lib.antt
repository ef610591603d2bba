pub mod Process
pub mod Drive
pub mod Trace
pub mod Fuel
pub mod Isolation
pub mod Whole
pub mod Laws
pub mod Approximants
