pub mod Alike
pub mod Attributes
pub mod Filters
pub mod Groups
pub mod Keys
pub mod Pairs
pub mod Runs
pub mod Sorted
