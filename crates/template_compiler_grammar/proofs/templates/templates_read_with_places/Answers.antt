use Rattle.template_compiler_grammar.proofs.TemplatesComplete.{template_complete}
use Rattle.template_compiler_grammar.proofs.TemplatesSound.{template_erased}
use Rattle.template_compiler_grammar.proofs.TemplateLaws.{template_sound_placed}
use Rattle.template_compiler_grammar.proofs.templates.templates_read_with_places.Goals as goal

pub returns : goal.returns
returns c = record { erased = template_erased; complete = template_complete; sound = template_sound_placed }
