use Rattle.std.proofs.Common.{inl, inr, refl, sym, ◌∙◌, arith, length, ◌<◌}
use Rattle.std.proofs.lemmas.Bool.{cases_lt, false≢true}
use Rattle.template_compiler_tokens.specs.Token.{bad_syntax}
use Rattle.template_compiler_placed_tokens.proofs.data.enter_raw.Goals as goal

pub returns-in_default : goal.returns-in_default
returns-in_default c =
    inr (bad_syntax, c.args.start, c.args.start, c.in_default.ensures c.args.start c.requires.start c.requires.raw, refl)

pub returns-then-is_nothing : goal.returns-then-is_nothing
returns-then-is_nothing c =
    let found = c.in-Some.ensures c.args.start c.requires.start c.requires.raw in
    (found.none (c.is_nothing.ensures.0 c.if-is_nothing.true), found.next, found.ahead)

pub returns : goal.returns
returns c =
    let found = c.in-Some.ensures c.args.start c.requires.start c.requires.raw in
    let text = c.in-Some.raw.text.now in
    let more : 0 < length text = elim (cases_lt 0 (length text)) [
      | inl more ↦ more
      | inr none ↦ absurd (false≢true (sym c.if-is_nothing.false ∙ c.is_nothing.ensures.1 (omega arith)))
    ] in
    let cut = found.cut more in
    record {
      first = found.some more;
      stage = found.next;
      cut = record { low = found.low; ordered = omega arith; high = found.high more; begin = cut.0; end = cut.1; next = found.next };
    }
