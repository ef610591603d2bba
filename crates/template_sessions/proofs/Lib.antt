mod Handles
mod Matching
pub mod Refusals
mod Sessions
