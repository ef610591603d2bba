mod Repeats
pub mod Shallow
mod Powers
