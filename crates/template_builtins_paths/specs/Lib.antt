pub mod Items
pub mod Paths
