pub mod Texts
pub mod Lifting
pub mod Making
pub mod Left
mod Holding
pub mod Scoping
pub mod Straying
mod Catching
mod Naming
