-- What those above compare names by.
pub use Rattle.template_compiler_names.proofs.Laws.{turned}
