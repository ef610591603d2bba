pub mod Performs
pub mod Asides
