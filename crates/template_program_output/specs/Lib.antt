pub mod Answer
pub mod Shown
pub mod Lines
pub mod Buffer
