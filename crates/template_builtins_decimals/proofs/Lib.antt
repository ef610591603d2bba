pub mod Carries
pub mod Digits
pub mod Halves
pub mod Powers
pub mod Rounded
pub mod Showing
pub mod Units
pub mod Values
