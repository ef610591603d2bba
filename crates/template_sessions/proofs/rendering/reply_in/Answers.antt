use Rattle.std.proofs.Common.{List, ℕ, inl, inr, string_bytes, subst}
use Rattle.template_sessions.specs.Sessions.{RepliesNamed}
use Rattle.template_sessions.proofs.rendering.reply_in.Goals as goal

pub returns-in-Ok-clause-replies : goal.returns-in-Ok-clause-replies
returns-in-Ok-clause-replies c =
    inr (
      c.in-Ok.ensures.cases.1,
      subst (λ (name : List ℕ). RepliesNamed c.args.session.now name c.args.context.now c.reply_named.result.status
          (string_bytes c.reply_named.result.text)) c.in-Ok.ensures.cases.0 c.reply_named.ensures.replies,
    )

pub returns-in-Err-clause-replies : goal.returns-in-Err-clause-replies
returns-in-Err-clause-replies c = inl (c.in-Err.ensures.cases.0, c.reply_to_fault.ensures)
