pub mod Named
pub mod Codes
pub mod Keywords
pub mod Code
