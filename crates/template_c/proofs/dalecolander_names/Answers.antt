use Rattle.std.proofs.Common.{ℕ, string_bytes, subst, sym}
use Rattle.template_program_parts.specs.declared.command.Command.TheVariants as asked
use Rattle.template_replies.specs.Replies.{Replies}
use Rattle.template_c.proofs.dalecolander_names.Goals as goal

pub returns : goal.returns
returns c =
    let text = string_bytes c.reply_to.result.text in
    let replies = subst (λ (status : ℕ). Replies asked.Names c.args.request.now status text) (sym c.write_reply.ensures.status) c.reply_to.ensures in
    record { replies = (text, replies, c.write_reply.ensures.laid, c.write_reply.ensures.written) }
