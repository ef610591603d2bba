pub mod Parsed
pub mod Tags
pub mod Written
