use Rattle.std.proofs.Common.{inl, inr}
use Rattle.template_replies.proofs.reply.reply_to_json.Goals as goal

pub returns-in-Ok : goal.returns-in-Ok
returns-in-Ok c = inr (c.in-Ok.message, c.in-Ok.ensures.says, c.reply_to_message.ensures)

pub returns-in-Err : goal.returns-in-Err
returns-in-Err c = inl (c.in-Err.fault, c.in-Err.ensures.refused, c.reply_to_fault.ensures)
