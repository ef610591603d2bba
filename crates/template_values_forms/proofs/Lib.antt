mod Rows
pub mod Levels
pub mod Staying
pub mod Gathering
