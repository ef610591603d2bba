pub mod Names
pub mod Digits
pub mod Lone
pub mod Characters
pub mod Cuts
pub mod Pieces
pub mod Tokens
pub mod Closing
