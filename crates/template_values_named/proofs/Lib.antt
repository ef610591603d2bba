mod Naming
mod Listing
pub mod Named
