pub mod Nothing
pub mod Pushes
pub mod Rounds
pub mod Takes
pub mod Words
