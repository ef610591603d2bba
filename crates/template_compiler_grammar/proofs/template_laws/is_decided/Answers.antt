use Rattle.template_compiler_grammar.proofs.TemplateGrammarLaws.{is_decided}
use Rattle.template_compiler_grammar.proofs.template_laws.is_decided.Goals as goal

pub returns : goal.returns
returns c = is_decided
