pub mod Json
pub mod Entries
pub mod Whole
pub mod Leaves
pub mod Contexts
pub mod Spelled
