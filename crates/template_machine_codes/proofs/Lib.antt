pub mod Alike
pub mod Sound
mod Settling
mod Calling
mod Coming
mod Within
mod Answering
mod Taking
mod Stepping
mod Fitting
mod Scoping
mod Making
mod Running
mod Keyed
