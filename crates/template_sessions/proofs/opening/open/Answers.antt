use Rattle.std.proofs.Common.{inl, inr}
use Rattle.json.specs.Value.{value_view}
use Rattle.template_sessions.proofs.Matching.{if_err, if_ok}
use Rattle.template_sessions.proofs.opening.open.Goals as goal

pub returns-in-Ok-clause-opened : goal.returns-in-Ok-clause-opened
returns-in-Ok-clause-opened c =
    let read = c.in-Ok.ensures in
    if_ok (λ session opens. (value_view c.in-Ok.tree, read.is.0, read.is.1, opens)) c.open_json.result c.open_json.ensures.opened

pub returns-in-Ok-clause-refused : goal.returns-in-Ok-clause-refused
returns-in-Ok-clause-refused c =
    let read = c.in-Ok.ensures in
    if_err (λ reply refuses. inr (value_view c.in-Ok.tree, read.is.0, read.is.1, refuses)) c.open_json.result c.open_json.ensures.refused

pub returns-clause-refused : goal.returns-clause-refused
returns-clause-refused c = inl (c.in-Err.fault, c.in-Err.ensures.refused, c.reply_to_fault.ensures)
