use Rattle.template_compiler_grammar.proofs.TemplateLaws.{tree_complete}
use Rattle.template_compiler_grammar.proofs.TemplatesSound.{template_sound, template_blamed}
use Rattle.template_compiler_grammar.proofs.template_laws.reads_the_grammar.Goals as goal

pub returns : goal.returns
returns c = record { complete = tree_complete; sound = template_sound; blamed = template_blamed }
