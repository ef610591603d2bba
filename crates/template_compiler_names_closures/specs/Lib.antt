pub mod Bodies
pub mod Closures
pub mod Units
pub use Rattle.template_compiler_names.specs.Among
