pub mod Loops
pub mod Places
pub mod Shared
pub mod Held
