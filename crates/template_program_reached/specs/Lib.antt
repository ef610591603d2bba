pub mod Loaded
pub mod Views
pub mod Reached
pub mod Sifted
pub mod Places
