pub mod Callables
pub mod Answers
pub mod Callbacks
pub mod Eithers
pub mod Formats
pub mod Joins
pub mod Views
