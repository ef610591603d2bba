mod Innermost
mod Named
mod Room
mod Cutting
mod Worlds
mod Closing
mod Stacks
mod Enclosing
pub mod Keeping
