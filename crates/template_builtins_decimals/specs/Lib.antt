pub mod Filters
pub mod Fixed
pub mod Rounding
pub mod Seen
pub mod Sizes
