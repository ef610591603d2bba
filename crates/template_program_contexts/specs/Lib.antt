pub mod Documents
pub mod Values
pub mod Context
pub mod Entries
pub mod Laws
pub mod Toml
