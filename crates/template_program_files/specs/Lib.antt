pub mod Names
pub mod Written
pub mod Below
pub mod Views
pub mod Refused
