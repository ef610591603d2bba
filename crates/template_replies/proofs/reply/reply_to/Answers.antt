use Rattle.std.proofs.Common.{inl, inr}
use Rattle.json.specs.Value.{value_view}
use Rattle.template_replies.proofs.reply.reply_to.Goals as goal

pub returns-in-Ok : goal.returns-in-Ok
returns-in-Ok c =
    let read = c.in-Ok.ensures in
    inr (value_view c.in-Ok.tree, read.is.0, read.is.1, c.reply_to_json.ensures)

pub returns : goal.returns
returns c = inl (c.in-Err.fault, c.in-Err.ensures.refused, c.reply_to_fault.ensures)
