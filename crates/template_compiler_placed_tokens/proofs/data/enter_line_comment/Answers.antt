use Rattle.std.proofs.Common.{◌+◌, sym, ◌∙◌, ap, subst, arith}
use Rattle.std.specs.Str.{IsCharBoundary}
use Rattle.template_compiler_syntax.specs.declared.StartMarker.TheVariants.{LineComment}
use Rattle.template_compiler_syntax.specs.declared.edges.Edge.TheVariants.{Beside}
use Rattle.template_compiler_syntax.specs.declared.edges.Trim.TheVariants.{Plain}
use Rattle.template_compiler_syntax.specs.Places.{newline_len, is_first_on_line}
use Rattle.template_compiler_placed_tokens.specs.Left.{data_tokens}
use Rattle.template_compiler_placed_tokens.proofs.Steps.{at_line_comment}
use Rattle.template_compiler_syntax.specs.Segments.{inside_from}
use Rattle.template_compiler_syntax.proofs.Some.{set_long}
use Rattle.template_compiler_placed_tokens.proofs.Cuts.{newline_behind, newline_before}
use Rattle.template_compiler_placed_tokens.proofs.Parts.{line_first, line_end_le, line_picked, line_left}
use Rattle.template_compiler_placed_tokens.proofs.data.enter_line_comment.Goals as goal

pub newline_len-requires : goal.newline_len-requires
newline_len-requires c =
    let within = c.inside_from-inside.ensures.cut.0 in
    line_end_le c.as_bytes-bytes.result.now c.inside_from-inside.result c.find_line_end-end.result (omega (arith, c.as_bytes-bytes.ensures.len))
    c.find_line_end-end.ensures

pub returns-then-is_first_on_line : goal.returns-then-is_first_on_line
returns-then-is_first_on_line c =
    let x = c.args.syntax.now in
    let s = c.args.source.now in
    let end = c.find_line_end-end.result in
    let value = c.as_bytes-bytes.ensures.value in
    let place = c.inside_from-inside.ensures.place in
    let first = line_first s c.as_bytes-bytes.result.now c.inside_from-inside.result (inside_from x s LineComment c.args.start) end value place c.find_line_end-end.ensures in
    let flag = ap (λ t. is_first_on_line t c.args.start) (sym value) ∙ (sym c.is_first_on_line.ensures ∙ c.if-is_first_on_line.true) in
    let width = c.newline_len.ensures ∙ ap (λ t. newline_len t end) value in
    let within = line_end_le s (inside_from x s LineComment c.args.start) end (let cut = c.inside_from-inside.ensures.cut.0 in omega arith) first in
    let long = set_long (x.line_comment_prefix) c.requires.start.here.is_set in
    let ahead = first.ahead in (
      at_line_comment x s c.requires.usable c.requires.start first ∙
          (line_picked x s (Beside LineComment Plain) c.args.start (end + newline_len s end) end flag ∙
          ap (λ w. data_tokens x s (Beside LineComment Plain) (end + w)) (sym width)),
      subst (λ w. IsCharBoundary s (end + w)) (sym width) (newline_behind s end c.utf8.source within first.here),
      omega arith,
    )

pub returns-else-is_first_on_line : goal.returns-else-is_first_on_line
returns-else-is_first_on_line c =
    let x = c.args.syntax.now in
    let s = c.args.source.now in
    let end = c.find_line_end-end.result in
    let value = c.as_bytes-bytes.ensures.value in
    let place = c.inside_from-inside.ensures.place in
    let first = line_first s c.as_bytes-bytes.result.now c.inside_from-inside.result (inside_from x s LineComment c.args.start) end value place c.find_line_end-end.ensures in
    let flag = ap (λ t. is_first_on_line t c.args.start) (sym value) ∙ (sym c.is_first_on_line.ensures ∙ c.if-is_first_on_line.false) in
    let within = line_end_le s (inside_from x s LineComment c.args.start) end (let cut = c.inside_from-inside.ensures.cut.0 in omega arith) first in
    let long = set_long (x.line_comment_prefix) c.requires.start.here.is_set in
    let ahead = first.ahead in (
      at_line_comment x s c.requires.usable c.requires.start first ∙
          line_left x s (Beside LineComment Plain) c.args.start (end + newline_len s end) end flag,
      newline_before s end within first.here,
      omega arith,
    )
