pub mod Lines
pub mod Checked
pub mod Names
pub mod Unknown
pub mod Ends
