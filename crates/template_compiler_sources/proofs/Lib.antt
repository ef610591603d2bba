pub mod Sources
pub mod Placed
pub mod Faults
pub mod Reached
mod Blocks
pub mod Lists
pub mod Seeing
pub mod TokenFaults
pub mod Spelling
mod Held
pub mod LeftOut
