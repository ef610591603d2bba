pub mod Definitions
pub mod CommandLine
pub mod Modes
pub mod Escapes
pub mod Floats
pub mod Reading
pub mod Refusals
