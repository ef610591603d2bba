use Rattle.template_compiled.proofs.Plain.{plain_stands}
use Rattle.template_compiled.proofs.compiled.plain_text.Goals as goal

pub returns : goal.returns
returns c = plain_stands
