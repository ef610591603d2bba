pub mod Needed
pub mod Seen
