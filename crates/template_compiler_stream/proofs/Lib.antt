pub mod Signs
pub mod Left
pub mod Spans
pub mod Skips
