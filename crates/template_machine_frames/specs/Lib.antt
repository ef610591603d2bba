pub mod Frames
pub mod Codes
pub mod Locals
pub mod Further
pub mod Beneath
pub mod Names
-- what contracts above cite of a crate below
pub use Rattle.template_machine_loops.specs.Loops
pub use Rattle.template_machine_loops.specs.Rounds
