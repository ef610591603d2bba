pub mod Definitions
pub mod Made
