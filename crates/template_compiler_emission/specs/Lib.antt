pub mod Leaps
pub mod Puts
