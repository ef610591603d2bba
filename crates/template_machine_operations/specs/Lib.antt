pub mod Answers
pub mod Called
pub mod Entries
pub mod Modules
pub mod Outcomes
pub mod Ranges
pub mod Texts
