pub mod Rounds
pub mod Loops
-- what contracts above cite of a crate below
pub use Rattle.template_machine_tables.specs.Codes
pub use Rattle.template_machine_tables.specs.Streams
