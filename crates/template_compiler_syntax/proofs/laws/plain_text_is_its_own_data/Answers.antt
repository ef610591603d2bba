use Rattle.template_compiler_syntax.proofs.Theorems.{plain_text}
use Rattle.template_compiler_syntax.proofs.laws.plain_text_is_its_own_data.Goals as goal

pub returns : goal.returns
returns c = plain_text
