use Rattle.template_compiler_names.proofs.Segments.{used_splits}
use Rattle.template_compiler_names_statements.proofs.undeclared.first_segments.Goals as goal

pub returns : goal.returns
returns c = λ tree name. used_splits name tree
