use Rattle.std.proofs.Common.{sym, ◌∙◌, subst, arith}
use Rattle.std.specs.Str.{IsCharBoundary}
use Rattle.template_compiler_placed_tokens.proofs.Delimiters.{place_ended, place_passed, white_cut}
use Rattle.template_compiler_placed_tokens.proofs.Scanned.{next_end}
use Rattle.template_compiler_placed_tokens.proofs.Steps.{inside_blank}
use Rattle.template_compiler_placed_tokens.proofs.inside.next_place_of.Goals as goal

pub returns-in-Some : goal.returns-in-Some
returns-in-Some c =
    let x = c.args.end.syntax.now in
    let s = c.args.source.now in
    let b = c.as_bytes-bytes.result.now in
    let place = c.blanks.place in (
      place_ended x s b c.args.end.kind c.args.depth place c.args.from c.in-Some.next c.in-Some.last
          c.as_bytes-bytes.ensures.value c.in-Some.ensures.found.0 c.blanks.invariant.inside c.in-Some.ensures.found.1,
      subst (λ t. IsCharBoundary t c.in-Some.next) c.as_bytes-bytes.ensures.value (c.in-Some.ensures.cut c.as_bytes-bytes.ensures.utf8),
      next_end x s b c.args.end.kind c.args.depth place c.args.from c.in-Some.next c.in-Some.last c.as_bytes-bytes.ensures.value
          c.in-Some.ensures.found.0 c.blanks.invariant.low c.blanks.invariant.cut c.blanks.invariant.same c.in-Some.ensures.found.1,
    )

pub returns-in-Some-black_end_at : goal.returns-in-Some-black_end_at
returns-in-Some-black_end_at c =
    let x = c.args.end.syntax.now in
    let s = c.args.source.now in
    let b = c.as_bytes-bytes.result.now in
    let place = c.blanks.place in (
      place_ended x s b c.args.end.kind c.args.depth place c.args.from c.in-Some-black_end_at.next c.in-Some-black_end_at.last
          c.as_bytes-bytes.ensures.value c.in-Some-black_end_at.ensures.found.0 c.blanks.invariant.inside c.in-Some-black_end_at.ensures.found.1,
      subst (λ t. IsCharBoundary t c.in-Some-black_end_at.next) c.as_bytes-bytes.ensures.value (c.in-Some-black_end_at.ensures.cut c.as_bytes-bytes.ensures.utf8),
      next_end x s b c.args.end.kind c.args.depth place c.args.from c.in-Some-black_end_at.next c.in-Some-black_end_at.last c.as_bytes-bytes.ensures.value
          c.in-Some-black_end_at.ensures.found.0 c.blanks.invariant.low c.blanks.invariant.cut c.blanks.invariant.same c.in-Some-black_end_at.ensures.found.1,
    )

pub blanks-preserved : goal.blanks-preserved
blanks-preserved c =
    let x = c.args.end.syntax.now in
    let b = c.as_bytes-bytes.result.now in
    let white = sym c.is_white_at.ensures ∙ c.blanks-test.true in
    let low = c.blanks.invariant.low in
    let none = c.in_default.ensures.found in
    record {
      low = omega arith;
      cut = white_cut b c.blanks.place c.as_bytes-bytes.ensures.utf8 c.blanks.invariant.cut white;
      inside = place_passed x b c.args.end.kind c.args.depth c.blanks.place c.args.from c.blanks.invariant.inside none white;
      same = c.blanks.invariant.same ∙ inside_blank x b c.args.end.kind c.args.depth c.blanks.place none white;
    }
