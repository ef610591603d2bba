pub mod Fuels
pub mod Meanings
pub mod Coming
pub mod Blocks
pub mod Calls
pub mod Handed
mod Rootless
mod Uppermost
