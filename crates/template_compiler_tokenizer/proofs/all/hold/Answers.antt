use Rattle.std.proofs.Common.{refl, arith}
use Rattle.template_compiler_tokenizer.proofs.Held.{pushed}
use Rattle.template_compiler_tokenizer.proofs.all.hold.Goals as goal

pub returns : goal.returns
returns c =
    let piece = c.args.piece in
    let begins = c.next_span-span.ensures.begins in (
      pushed c.args.tokens.now.items c.push.new.tokens.items (piece.token, c.next_span-span.result) _ c.in_ok-push.ensures c.next_span-span.ensures.span,
      refl,
      refl,
      (begins.0, omega (arith, begins.1, c.requires.cut.high)),
    )
