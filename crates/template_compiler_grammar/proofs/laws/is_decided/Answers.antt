use Rattle.template_compiler_grammar.proofs.GrammarLaws.{is_decided}
use Rattle.template_compiler_grammar.proofs.laws.is_decided.Goals as goal

pub returns : goal.returns
returns c = is_decided
