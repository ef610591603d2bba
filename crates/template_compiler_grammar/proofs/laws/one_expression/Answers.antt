use Rattle.template_compiler_grammar.proofs.GrammarLaws.{one_expression}
use Rattle.template_compiler_grammar.proofs.laws.one_expression.Goals as goal

pub returns : goal.returns
returns c = one_expression
