pub mod Ends
pub mod Entries
pub mod Equals
pub mod Stable
pub mod Steps
