pub mod Shapes
pub mod Effects
pub mod Streams
pub mod Laws
pub mod Rounds
pub mod Outlines
pub mod Ways
pub mod Passes
pub mod Desks
-- what contracts here cite of a crate below
pub use Rattle.template_compiler_code.specs.Loops
pub mod Checked
