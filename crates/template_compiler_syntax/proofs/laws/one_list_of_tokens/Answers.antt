use Rattle.template_compiler_syntax.proofs.Theorems.{one_tokens, some_tokens}
use Rattle.template_compiler_syntax.proofs.laws.one_list_of_tokens.Goals as goal

pub returns-clause-some : goal.returns-clause-some
returns-clause-some c = some_tokens

pub returns-clause-one : goal.returns-clause-one
returns-clause-one c = one_tokens
