pub mod Left
pub mod Ends
pub mod Finds
pub mod Reads
pub mod Steps
pub mod Read
