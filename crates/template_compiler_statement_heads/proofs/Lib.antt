pub mod Filters
pub mod Named
pub mod Ended
