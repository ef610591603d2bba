use Rattle.std.proofs.Common.{sym, ◌∙◌}
use Rattle.template_builtins_layout.proofs.characters.split_first.Goals as goal

pub returns-clause-parts : goal.returns-clause-parts
returns-clause-parts c = rw c.as_str.ensures (sym c.chars-characters.ensures.rest ∙ c.in_ok-first.ensures.steps.0)
