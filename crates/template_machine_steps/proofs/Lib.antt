pub mod Performing
pub mod Keeping
pub mod Lacking
pub mod Stepping
pub mod Hearing
pub mod Gathering
mod Counted
pub mod Sparing
pub mod Promptly
mod Knowing
mod Testing
