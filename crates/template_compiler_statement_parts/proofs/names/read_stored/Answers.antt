use Rattle.std.proofs.Common.{sym, ◌∙◌}
use Rattle.template_compiler_statement_parts.proofs.Placed.{stored_reserved, stored_free}
use Rattle.template_compiler_statement_parts.proofs.names.read_stored.Goals as goal

pub returns-then-is_reserved-clause-parsed : goal.returns-then-is_reserved-clause-parsed
returns-then-is_reserved-clause-parsed c = stored_reserved _ _ _ c.in-Some.ensures (sym c.is_reserved.ensures ∙ c.if-is_reserved.true)

pub returns-else-is_reserved-clause-parsed : goal.returns-else-is_reserved-clause-parsed
returns-else-is_reserved-clause-parsed c =
    stored_free _ _ _ _ _ _ c.in-Some.ensures (sym c.is_reserved.ensures ∙ c.if-is_reserved.false) c.advance.ensures.passed c.span-span.ensures
    c.variable.ensures.tree c.variable.ensures.places
