use Rattle.std.proofs.Common.{inl, inr}
use Rattle.template_sessions.proofs.Matching.{if_err, if_ok}
use Rattle.template_sessions.proofs.opening.open_json.Goals as goal

pub returns-in-Ok-clause-opened : goal.returns-in-Ok-clause-opened
returns-in-Ok-clause-opened c =
    if_ok (λ session opens. (c.in-Ok.opening, c.in-Ok.ensures.says, opens)) c.open_with.result c.open_with.ensures.opened

pub returns-in-Ok-clause-refused : goal.returns-in-Ok-clause-refused
returns-in-Ok-clause-refused c =
    if_err (λ reply refuses. inr (c.in-Ok.opening, c.in-Ok.ensures.says, refuses)) c.open_with.result c.open_with.ensures.refused

pub returns-in-Err-clause-refused : goal.returns-in-Err-clause-refused
returns-in-Err-clause-refused c = inl (c.in-Err.fault, c.in-Err.ensures.refused, c.reply_to_fault.ensures)
