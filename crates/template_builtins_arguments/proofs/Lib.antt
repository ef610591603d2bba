pub mod Giving
pub mod Naming
pub mod Taking
