-- The names that a macro encloses when it is made, and whether it takes a caller.
pub use Rattle.template_compiler_names.specs.Enclosed.{encloses, enclosed_names, uses_caller}
