use Rattle.std.proofs.Common.{[], refl, string_bytes}
use Rattle.template_sessions.proofs.Sessions.{are_lent}
use Rattle.template_sessions.proofs.rendering.reply_named.Goals as goal

pub returns-clause-replies : goal.returns-clause-replies
returns-clause-replies c =
    let documents = are_lent c.args.context.now c.document_of-document.result c.as_slice.result.now c.document_of-document.ensures c.as_slice.ensures in (
      record { documents = c.as_slice.result.now; values = []; floats = c.args.session.now.floats },
      record { documents = documents; values = refl; floats = refl },
      (c.render_text-outcome.result.0, string_bytes c.render_text-outcome.result.1, c.render_text-outcome.ensures.renders, c.reply_of.ensures),
    )
