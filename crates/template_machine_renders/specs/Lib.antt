pub mod Renders
pub mod Handed
pub mod Laws
pub use Rattle.template_machine_loop.specs.Outcomes
pub use Rattle.template_machine_loop.specs.Plans
pub use Rattle.template_machine_loop.specs.Programs
pub use Rattle.template_machine_loop.specs.Runs
