use Rattle.std.proofs.Common.{◌≡◌, ◌-◌, ◌≤◌, ◌+◌, ◌++◌, length, take, string_bytes}
use Rattle.std.specs.Str.{IsCharBoundary, IsUtf8}
use Rattle.template_values_forms.specs.Escapes.{html}
use Rattle.template_values_print.specs.Pieces.{Begins}
use Rattle.template_values_print.proofs.html.push_references.Given as goal

-- the text up to `at` is written or waits in the block
abbrev pub invariant-loop-at : goal.invariant-loop-at
invariant-loop-at l = record {
  within : l.at ≤ length l.piece;
  boundary : IsCharBoundary l.piece l.at;
  begins : Begins (string_bytes l.initial.out) (string_bytes l.out);
  room : l.used + 8 ≤ 256;
  text : IsUtf8 (take l.used l.block);
  done : string_bytes l.out ++ take l.used l.block ≡ string_bytes l.initial.out ++ html (take l.at l.piece);
}

abbrev pub decreases-loop-at : goal.decreases-loop-at
decreases-loop-at l = length l.piece - l.at
