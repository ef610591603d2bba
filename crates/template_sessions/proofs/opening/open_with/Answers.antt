use Rattle.std.proofs.Common.{inl, inr}
use Rattle.template_sessions.proofs.Matching.{if_err}
use Rattle.template_sessions.proofs.opening.open_with.Goals as goal

pub returns-in-Ok-clause-refused : goal.returns-in-Ok-clause-refused
returns-in-Ok-clause-refused c = if_err (λ reply refuses. inr refuses) c.open_under.result c.open_under.ensures.refused

pub returns-in-Err-clause-refused : goal.returns-in-Err-clause-refused
returns-in-Err-clause-refused c = inl (c.in-Err.error, c.in-Err.ensures.refused, c.refusal.ensures)
