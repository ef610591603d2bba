pub mod Apart
pub mod One
pub mod Some
pub mod Pieces
pub mod Searches
pub mod NextStart
pub mod Bytes
pub mod Theorems
pub mod Data
mod Pairs
