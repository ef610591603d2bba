pub mod Keeping
pub mod Parting
pub mod Applied
