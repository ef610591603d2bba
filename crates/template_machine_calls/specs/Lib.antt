pub mod Formatted
pub mod Hosted
pub mod Left
pub mod Noted
pub mod Calls
pub mod Binding
-- what contracts here cite of crates below
pub use Rattle.template_machine_steps.specs.Performs
