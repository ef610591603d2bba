pub mod Answers
pub mod Choices
pub mod Formats
pub mod Layouts
pub mod Numerals
pub mod Padding
pub mod Shown
