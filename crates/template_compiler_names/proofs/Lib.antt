pub mod Plain
mod Rows
pub mod Segments
pub mod Laws
mod Parts
pub mod Sets
pub mod Enclosing
