use Rattle.template_compiler_grammar.proofs.TemplateGrammarLaws.{one_template}
use Rattle.template_compiler_grammar.proofs.template_laws.one_template.Goals as goal

pub returns : goal.returns
returns c = one_template
