use Rattle.std.proofs.Common.{sym, ◌∙◌}
use Rattle.template_builtins_texts.proofs.Ends.{chars_before_char}
use Rattle.template_builtins_methods.proofs.characters.split_last.Goals as goal

pub returns-clause-parts : goal.returns-clause-parts
returns-clause-parts c =
    chars_before_char _ _ c.in_ok-last.last c.utf8.text c.as_str.utf8
    (sym c.chars-characters.ensures.rest ∙ rw (← c.as_str.ensures) at c.in_ok-last.ensures.steps)
