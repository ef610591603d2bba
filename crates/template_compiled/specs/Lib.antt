pub mod Sources
pub mod Compiled
pub mod Names
pub mod Plain
pub mod Expressions
pub mod Standing
pub mod Streams
pub mod Checked
