pub mod Folding
pub mod Nodes
