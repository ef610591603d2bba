pub mod Sessions
pub mod Openings
pub mod Handles
