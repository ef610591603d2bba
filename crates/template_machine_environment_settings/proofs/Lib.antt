pub mod Settings
pub mod Agreeing
