pub mod Named
pub mod Known
pub mod Innermost
pub mod Knowing
pub mod Behind
pub mod Places
pub mod Outermost
pub mod Beneath
pub mod Seen
pub mod Replacing
mod Public
