pub mod Answers
pub mod Appending
pub mod Arguments
pub mod Given
pub mod Parts
pub mod Printing
pub mod Texts
