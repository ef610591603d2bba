pub mod Shapes
pub mod Defined
pub mod Matches
mod NoMode
