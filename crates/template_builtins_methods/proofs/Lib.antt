pub mod Bare
pub mod Valuing
pub mod Casing
pub mod Finding
