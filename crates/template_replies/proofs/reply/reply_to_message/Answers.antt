use Rattle.std.proofs.Common.{inl, inr}
use Rattle.template_replies.proofs.reply.reply_to_message.Goals as goal

pub returns-in-Ok : goal.returns-in-Ok
returns-in-Ok c = inr c.run_message.ensures

pub returns-in-Err : goal.returns-in-Err
returns-in-Err c = inl (c.in-Err.error, c.in-Err.ensures.refused, c.refusal.ensures)
