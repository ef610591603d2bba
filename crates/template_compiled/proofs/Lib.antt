pub mod Trees
pub mod Plain
pub mod Accepting
pub mod Alone
pub mod Updates
pub mod Listing
pub mod Refusals
pub mod Bodies
mod Blocks
pub mod Good
