pub mod Loops
pub mod Heads
pub mod DeclarationHeads
