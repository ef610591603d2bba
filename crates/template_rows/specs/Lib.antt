pub mod Entries
pub mod Brings
pub mod Joins
pub mod Prints
pub mod Says
