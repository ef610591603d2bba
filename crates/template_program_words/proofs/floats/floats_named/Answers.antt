use Rattle.std.proofs.Common.{ap, sym}
use Rattle.template_program_words.specs.Floats.{floats_named}
use Rattle.template_program_words.proofs.NoMode.{no_floats}
use Rattle.template_program_words.proofs.floats.floats_named.Goals as goal

pub returns-in-text : goal.returns-in-text
returns-in-text c = ap floats_named (sym c.in-text.is)

pub returns-in_default : goal.returns-in_default
returns-in_default c = sym (no_floats c.args.word.now c.in_default.not-text)
