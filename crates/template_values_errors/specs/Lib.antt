pub mod Chain
pub mod Names
pub mod Causes
pub mod Memory
pub mod Same
