use Rattle.std.proofs.Common.{ap, sym}
use Rattle.template_requests.specs.Words.{floats_named}
use Rattle.template_requests.proofs.NoWord.{no_floats}
use Rattle.template_requests.proofs.leaves.floats_named.Goals as goal

pub returns-in-refused : goal.returns-in-refused
returns-in-refused c = ap floats_named (sym c.in-refused.is)

pub returns-in-text : goal.returns-in-text
returns-in-text c = ap floats_named (sym c.in-text.is)

pub returns-in_default : goal.returns-in_default
returns-in_default c = sym (no_floats c.args.word.now c.in_default.not-refused c.in_default.not-text)
