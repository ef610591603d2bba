use Rattle.std.proofs.Common.{◌≡◌, ◌-◌, ◌≤◌, ◌++◌, length, take, string_bytes}
use Rattle.std.specs.List.{flat_map}
use Rattle.std.specs.Str.{IsCharBoundary}
use Rattle.template_values_print.specs.Pieces.{Begins, encoded, escaped_byte}
use Rattle.template_values_print.proofs.pieces.push_escaped.Given as goal

-- the text up to `at` is written
abbrev pub invariant-loop-at : goal.invariant-loop-at
invariant-loop-at l = record {
  within : l.at ≤ length l.text;
  boundary : IsCharBoundary l.text l.at;
  begins : Begins (string_bytes l.initial.out) (string_bytes l.out);
  done : string_bytes l.out ≡ string_bytes l.initial.out ++ encoded l.markup (flat_map (escaped_byte l.quoting) (take l.at l.text));
}

abbrev pub decreases-loop-at : goal.decreases-loop-at
decreases-loop-at l = length l.text - l.at
