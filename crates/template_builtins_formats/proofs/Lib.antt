pub mod Cuts
pub mod Figures
pub mod Going
pub mod Keywords
