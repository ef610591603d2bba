pub mod Choices
pub mod Parts
pub mod Stores
pub use Rattle.template_compiler_names.specs.Among
pub use Rattle.template_compiler_names.specs.Dotted
pub use Rattle.template_compiler_names.specs.Goes
pub mod Found
