pub mod Paths
pub mod Going
pub mod Stopping
pub mod Straying
pub mod Telling
pub mod ComingOut
pub mod Staying
