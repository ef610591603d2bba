pub mod Building
pub mod Segments
pub mod Calm
pub mod Aims
pub mod Plain
pub mod Moving
pub mod Rounds
pub mod Keeping
pub mod Importing
pub mod Declaring
pub mod Running
pub mod Whole
pub mod Pieces
mod CallBlocks
mod Numbering
pub mod Accepted
pub mod Alike
pub mod Naming
pub mod Passing
