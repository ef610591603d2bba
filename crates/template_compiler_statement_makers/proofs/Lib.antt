pub mod Lists
pub mod Rows
pub mod Openings
pub mod Branches
