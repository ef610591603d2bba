use Rattle.std.proofs.Common.{◌+◌, inr, refl, sym, ◌∙◌, ap, subst, arith, length}
use Rattle.std.specs.Str.{IsUtf8, IsCharBoundary}
use Rattle.template_compiler_syntax.specs.declared.StartMarker.TheVariants.{Comment}
use Rattle.template_compiler_tokens.specs.Token.{bad_syntax}
use Rattle.template_compiler_syntax.specs.declared.edges.Edge.TheVariants.{Beside}
use Rattle.template_compiler_syntax.specs.Segments.{comment_sign}
use Rattle.template_compiler_syntax.proofs.Some.{set_long}
use Rattle.template_compiler_placed_tokens.specs.Left.{data_tokens}
use Rattle.template_compiler_placed_tokens.proofs.Cuts.{stands_cut}
use Rattle.template_compiler_placed_tokens.proofs.Steps.{at_comment, at_endless_comment}
use Rattle.template_compiler_placed_tokens.proofs.Parts.{comment_first, comment_nowhere}
use Rattle.template_compiler_placed_tokens.proofs.data.enter_comment.Goals as goal

pub returns-in-None : goal.returns-in-None
returns-in-None c =
    let x = c.args.syntax.now in
    let s = c.args.source.now in
    let texts = c.as_bytes.ensures.value ∙ c.comment_delimiters.ensures.end in
    let none =
    comment_nowhere x s c.as_bytes-bytes.result.now c.as_bytes.result.now c.args.start c.inside_from-inside.result c.as_bytes-bytes.ensures.value texts
    c.inside_from-inside.ensures.place c.in-None.ensures in
    inr (bad_syntax, c.args.start, c.args.start, at_endless_comment x s c.requires.usable c.requires.start none, refl)

pub returns-in-Some : goal.returns-in-Some
returns-in-Some c =
    let x = c.args.syntax.now in
    let s = c.args.source.now in
    let end = c.in-Some.end in
    let texts = c.as_bytes.ensures.value ∙ c.comment_delimiters.ensures.end in
    let first =
    comment_first x s c.as_bytes-bytes.result.now c.as_bytes.result.now c.args.start c.inside_from-inside.result end c.as_bytes-bytes.ensures.value texts
    c.inside_from-inside.ensures.place c.in-Some.ensures in
    let delimiter = c.comment_delimiters.ensures.end in
    let set = c.requires.usable.filled.comment_end in
    let signs =
    c.comment_sign-last.ensures ∙
    (ap (λ t. comment_sign t c.inside_from-inside.result end) c.as_bytes-bytes.ensures.value ∙
    ap (λ n. comment_sign s n end) c.inside_from-inside.ensures.place) in
    let widths = ap length delimiter in
    let low = c.inside_from-inside.ensures.ahead in
    let inside = c.inside_from-inside.ensures.place in
    let ahead = first.ahead in
    let long = set_long (x.comment_end) set in (
      at_comment x s c.requires.usable c.requires.start first ∙
          (ap (λ g. data_tokens x s (Beside Comment g) (end + length (x.comment_end))) (sym signs) ∙
          ap (λ n. data_tokens x s (Beside Comment c.comment_sign-last.result) (end + n)) (sym widths)),
      subst (λ n. IsCharBoundary s (end + n)) (sym widths)
          (stands_cut s (x.comment_end) end c.utf8.source (subst IsUtf8 texts c.as_bytes.ensures.utf8) set first.here),
      omega arith,
    )
