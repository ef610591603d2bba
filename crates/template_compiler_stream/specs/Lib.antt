pub mod Signs
pub mod Refusals
pub mod Left
pub mod Spans
pub mod Skips
pub mod Tags
