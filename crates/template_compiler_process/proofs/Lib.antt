pub mod Below
pub mod Driving
pub mod Ending
pub mod Approximants
pub mod Cuts
pub mod Behind
pub mod Fuels
