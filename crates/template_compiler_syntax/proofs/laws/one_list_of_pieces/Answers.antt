use Rattle.template_compiler_syntax.proofs.Theorems.{one_pieces, some_pieces}
use Rattle.template_compiler_syntax.proofs.laws.one_list_of_pieces.Goals as goal

pub returns-clause-some : goal.returns-clause-some
returns-clause-some c = some_pieces

pub returns-clause-one : goal.returns-clause-one
returns-clause-one c = one_pieces
