pub mod Cutting
pub mod Filling
pub mod Numbers
pub mod Widths
