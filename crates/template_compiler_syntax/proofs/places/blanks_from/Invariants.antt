use Rattle.std.proofs.Common.{◌≡◌, ◌≤◌}
use Rattle.template_compiler_syntax.specs.Places.{blanks_from}
use Rattle.template_compiler_syntax.proofs.places.blanks_from.Given as goal

abbrev pub invariant-loop-start : goal.invariant-loop-start
invariant-loop-start l = record {
  bound : l.start ≤ l.at;
  same : blanks_from l.bytes l.at ≡ blanks_from l.bytes l.start;
}

abbrev pub decreases-loop-start : goal.decreases-loop-start
decreases-loop-start l = l.start
