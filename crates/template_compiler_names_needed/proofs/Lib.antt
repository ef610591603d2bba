mod Looping
mod Taking
mod Telling
pub mod Lists
pub mod Runnable
mod BlockTaking
