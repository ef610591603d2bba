pub mod Codes
pub mod Changes
pub mod Loaded
pub mod Room
pub mod Cuts
-- what contracts above cite of a crate below
pub use Rattle.template_machine_frames.specs.Names
pub use Rattle.template_machine_loops.specs.Rounds
pub use Rattle.template_machine_tables.specs.Stack
pub use Rattle.template_machine_tables.specs.Streams
