use Rattle.template_builtins_layout.proofs.truncating.ended.Goals as goal

pub returns-clause-made : goal.returns-clause-made
returns-clause-made c =
    rw (c.markup_of-front_markup.ensures, c.markup_of-end_markup.ensures, c.is_safe.ensures, c.is_safe_argument.ensures) at c.put_together.ensures.made
