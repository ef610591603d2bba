pub mod Names
pub mod Builtins
pub mod Each
pub mod Filtered
pub mod Says
pub mod Naming
