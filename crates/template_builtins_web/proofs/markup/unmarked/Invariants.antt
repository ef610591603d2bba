use Rattle.std.proofs.Common.{◌≡◌, ◌-◌, ◌≤◌, ◌++◌, take, drop, string_bytes}
use Rattle.std.specs.Str.{IsCharBoundary}
use Rattle.template_builtins_web.specs.Markup.{unmarked}
use Rattle.template_builtins_web.proofs.markup.unmarked.Given as goal

-- the text up to `i` is written, but for a last block from `start`
abbrev pub invariant-loop-i : goal.invariant-loop-i
invariant-loop-i l = record {
  within : l.start ≤ l.i;
  boundary : IsCharBoundary l.text l.start;
  done : string_bytes l.out ++ take (l.i - l.start) (drop l.start l.text) ≡ unmarked (take l.i l.text);
}
