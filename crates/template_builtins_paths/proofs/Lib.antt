pub mod Each
pub mod Reached
pub mod Steps
