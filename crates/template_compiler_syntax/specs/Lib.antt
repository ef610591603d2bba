pub mod Syntax
pub mod Settings
pub mod Places
pub mod Segments
pub mod Stripping
pub mod Flat
pub mod Known
