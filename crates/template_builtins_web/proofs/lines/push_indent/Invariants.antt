use Rattle.std.proofs.Common.{List, Result, Ok, string_bytes, ℕ}
use Rattle.std.specs.List.{repeat}
use Rattle.template_values_errors.specs.declared.ErrorKind.{ErrorKind}
use Rattle.template_values_print.specs.Pieces.{Writes}
use Rattle.template_values_print.specs.declared.pieces.Markup.TheVariants.{Plain}
use Rattle.template_builtins_web.proofs.lines.push_indent.Given as goal

-- what writes the levels that are left from here writes all of them
abbrev pub invariant-loop-left : goal.invariant-loop-left
invariant-loop-left l =
    (result : Result (Unit {0}) (List ErrorKind)) (after : List ℕ)
    → Writes Plain (string_bytes l.out) (Ok (repeat l.left l.indent)) result after
    → Writes Plain (string_bytes l.initial.out) (Ok (repeat l.level l.indent)) result after

abbrev pub decreases-loop-left : goal.decreases-loop-left
decreases-loop-left l = l.left
