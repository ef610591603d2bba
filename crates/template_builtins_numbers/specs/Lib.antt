pub mod Decimals
pub mod Filters
pub mod Numerals
pub mod Seen
pub mod Values
pub mod Wholes
