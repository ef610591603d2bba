pub mod Digits
pub mod Moved
pub mod Places
pub mod Signs
pub mod Summing
