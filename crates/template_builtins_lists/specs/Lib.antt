pub mod Chains
pub mod Counts
pub mod Filters
pub mod Joins
pub mod Lines
pub mod Lists
pub mod Zips
