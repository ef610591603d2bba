use Rattle.template_compiler_grammar.proofs.Wholes.{whole}
use Rattle.template_compiler_grammar.proofs.derivations.stands_whole.Goals as goal

pub returns : goal.returns
returns c = whole
