pub mod Bodies
pub mod Deep
mod Walking
mod Nodes
pub mod Storing
mod Adding
pub mod UndeclaredWalking
mod Whole
