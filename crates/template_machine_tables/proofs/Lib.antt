mod Naming
mod Lasting
pub mod Cloned
pub mod Placing
pub mod Replacing
pub mod Comparing
pub mod Calling
pub mod Adding
