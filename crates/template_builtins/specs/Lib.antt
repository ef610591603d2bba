pub mod Installed
pub mod Brought
