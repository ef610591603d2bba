pub mod Alike
pub mod Histories
-- what is cited above of the environment itself
pub use Rattle.template_machine_environment.specs.Compiled
pub use Rattle.template_machine_environment.specs.Extras
pub use Rattle.template_machine_environment.specs.Globals
pub use Rattle.template_machine_environment.specs.Isolated
pub use Rattle.template_machine_environment.specs.Isolation
pub use Rattle.template_machine_environment.specs.Meaning
pub use Rattle.template_machine_environment.specs.Outcomes
pub use Rattle.template_machine_environment.specs.Plain
pub use Rattle.template_machine_environment.specs.Reading
pub use Rattle.template_machine_environment.specs.Renderings
pub use Rattle.template_machine_environment.specs.Renders
pub use Rattle.template_machine_environment.specs.Sources
pub use Rattle.template_machine_environment.specs.Standing
pub use Rattle.template_machine_environment.specs.Views
pub use Rattle.template_machine_environment.specs.declared.registry.Registry
