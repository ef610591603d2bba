pub mod Told
pub mod Evaluations
