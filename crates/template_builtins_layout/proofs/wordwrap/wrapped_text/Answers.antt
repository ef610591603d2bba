use Rattle.template_builtins_layout.proofs.wordwrap.wrapped_text.Goals as goal

pub returns-clause-made : goal.returns-clause-made
returns-clause-made c =
    rw (c.markup_of-markup.ensures, c.as_str.ensures, c.in_ok-wrap.ensures.made, c.is_safe.ensures, c.is_safe_argument.ensures, c.max.ensures) at c.laid_out.ensures.made
