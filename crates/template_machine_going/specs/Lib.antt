pub mod Spots
pub mod Paying
pub mod Goings
pub mod Stops
pub mod Acts
pub mod Laws
pub mod Strays
pub mod Told
pub mod Outcomes
pub mod Comings
pub mod Bounds
pub mod Trackers

-- what contracts here cite of the crates below
