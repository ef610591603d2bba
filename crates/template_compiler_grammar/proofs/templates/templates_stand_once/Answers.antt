use Rattle.template_compiler_grammar.proofs.TemplateLaws.{one_place}
use Rattle.template_compiler_grammar.proofs.templates.templates_stand_once.Goals as goal

pub returns : goal.returns
returns c = one_place
