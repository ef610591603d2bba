pub mod Val
pub mod Fault
pub mod Lookup
pub mod Gives
