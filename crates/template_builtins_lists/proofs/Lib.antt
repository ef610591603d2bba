pub mod Chaining
pub mod Counting
pub mod Cutting
pub mod Joining
pub mod Pairing
pub mod Zipping
