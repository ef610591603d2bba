use Rattle.std.proofs.Common.{ℕ, List, inl, inr, string_bytes, subst, sym}
use Rattle.template_program_parts.specs.declared.outcome.Outcome.TheVariants.{Template}
use Rattle.template_replies.specs.Replies.{TellsOutcome}
use Rattle.template_sessions.specs.Sessions.{IsOpened}
use Rattle.template_sessions.proofs.Matching.{if_err, if_ok}
use Rattle.template_sessions.proofs.opening.open_under.Goals as goal

pub returns-in-Ok-clause-opened : goal.returns-in-Ok-clause-opened
returns-in-Ok-clause-opened c =
    if_ok (λ whole is. subst (λ s. IsOpened c.args.opening s) (sym is) c.in-Ok.ensures.opened) c.boxed.result c.boxed.ensures.boxed

pub returns-in-Ok-clause-refused : goal.returns-in-Ok-clause-refused
returns-in-Ok-clause-refused c = if_err (λ reply bare. inr bare) c.boxed.result c.boxed.ensures.refused

pub returns-in-Err-clause-refused : goal.returns-in-Err-clause-refused
returns-in-Err-clause-refused c =
    let told = subst (λ (text : List ℕ). TellsOutcome (Template c.in-Err.error) text c.reply_of.result.status (string_bytes c.reply_of.result.text)) c.new.ensures.bytes c.reply_of.ensures in
    inl (c.in-Err.error, c.in-Err.ensures.refused, told)
