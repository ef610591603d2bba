use Rattle.template_compiler_grammar.proofs.ReaderLaws.{one_place}
use Rattle.template_compiler_grammar.proofs.places.stands_once.Goals as goal

pub returns : goal.returns
returns c = one_place
