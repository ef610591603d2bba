use Rattle.std.proofs.Common.{◌<◌, ◌+◌, ◌≡◌, inl, inr, ap, arith}
use Rattle.template_compiler_syntax.specs.Segments.{line_end}
use Rattle.template_compiler_syntax.specs.Places.{newline_len}
use Rattle.template_compiler_placed_tokens.proofs.ends.line_end_at.Goals as goal

pub returns-then-width-gt0 : goal.returns-then-width-gt0
returns-then-width-gt0 c = λ x.
    let width = c.newline_len-width.ensures in
    let some : 0 < newline_len c.args.bytes.now c.args.place = omega arith in
    line_end (inl some) (ap (λ w. c.args.place + w) width)

pub returns-else-place-bytes : goal.returns-else-place-bytes
returns-else-place-bytes c = λ x.
    let width = c.newline_len-width.ensures in
    let same : c.args.place ≡ c.args.place + newline_len c.args.bytes.now c.args.place = omega arith in
    line_end (inr c.if-place-bytes.false) same
