pub mod OneRule
pub mod Beginnings
