pub mod Bringing
pub mod Added
pub mod Partial
