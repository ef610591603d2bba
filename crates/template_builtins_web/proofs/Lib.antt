pub mod LaidOut
pub mod Refusals
pub mod Escaping
pub mod Following
pub mod Pairs
pub mod Spacing
