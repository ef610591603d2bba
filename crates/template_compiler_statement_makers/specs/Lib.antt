pub mod Surroundings
pub mod Blank
pub mod Listed
pub mod Begun
pub mod Branches
