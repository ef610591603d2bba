pub mod OneToken
pub mod Ends
pub mod Views
mod Rows
pub mod Texts
pub mod Decided
pub mod Loops
pub mod Readings
pub mod Columns
pub mod Counting
pub mod Spans
pub mod Stretches
pub mod Tests
