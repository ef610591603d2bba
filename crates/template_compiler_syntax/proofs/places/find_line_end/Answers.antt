use Rattle.std.proofs.Common.{inl, inr, arith}
use Rattle.template_compiler_syntax.proofs.Searches.{line_end_return, line_end_feed, line_end_none}
use Rattle.template_compiler_syntax.proofs.places.find_line_end.Goals as goal
use Rattle.template_compiler_syntax.proofs.places.find_line_end.Goals.{else-skipped-gt0-via-then-skipped-gt0+else-bytes-newline-eq13, else-skipped-gt0-via-else-skipped-gt0}

pub returns-then-bytes-newline-eq13 : goal.returns-then-bytes-newline-eq13
returns-then-bytes-newline-eq13 c =
    line_end_return c.args.bytes.now c.rest_from.result.now c.args.from c.in-Some.skipped c.rest_from.ensures c.in-Some.ensures c.if-skipped-gt0.true
    c.if-bytes-newline-eq13.true

pub returns-else-skipped-gt0 : goal.returns-else-skipped-gt0
returns-else-skipped-gt0 c =
    line_end_feed c.args.bytes.now c.rest_from.result.now c.args.from c.in-Some.skipped c.rest_from.ensures c.in-Some.ensures
    (elim c.else-skipped-gt0.branch [
      | else-skipped-gt0-via-then-skipped-gt0+else-bytes-newline-eq13 w ↦ inr w.if-bytes-newline-eq13.false
      | else-skipped-gt0-via-else-skipped-gt0 w ↦ inl (let none = w.if-skipped-gt0.false in omega arith)
    ])

pub returns-in-None : goal.returns-in-None
returns-in-None c =
    line_end_none c.args.bytes.now c.rest_from.result.now c.args.from c.requires c.rest_from.ensures c.in-None.ensures
