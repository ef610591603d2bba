pub mod Deciding
pub mod Using
