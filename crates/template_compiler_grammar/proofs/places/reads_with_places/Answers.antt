use Rattle.template_compiler_grammar.proofs.Complete.{expression_complete}
use Rattle.template_compiler_grammar.proofs.Sound.{expression_erased}
use Rattle.template_compiler_grammar.proofs.ReaderLaws.{expression_sound_placed}
use Rattle.template_compiler_grammar.proofs.places.reads_with_places.Goals as goal

pub returns : goal.returns
returns c = record { erased = expression_erased; complete = expression_complete; sound = expression_sound_placed }
