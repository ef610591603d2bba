use Rattle.template_compiler_grammar.proofs.ReaderLaws.{tree_complete}
use Rattle.template_compiler_grammar.proofs.Sound.{expression_sound}
use Rattle.template_compiler_grammar.proofs.laws.reads_the_grammar.Goals as goal

pub returns : goal.returns
returns c = record {
  complete = tree_complete;
  sound = λ d ts us e h. ((expression_sound d ts).tree e us h).0;
  blamed = λ d ts f h. (expression_sound d ts).blames f h;
}
