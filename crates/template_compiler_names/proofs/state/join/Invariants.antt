-- What was joined so far and the names that are left make the whole.
use Rattle.std.proofs.Common.{◌≡◌, ◌≤◌, length, take, string_bytes}
use Rattle.template_compiler_names.specs.Names.{joined}
use Rattle.template_compiler_names.specs.Dotted.{fields_of}
use Rattle.template_compiler_names.proofs.state.join.Given as goal

abbrev pub invariant-loop-left : goal.invariant-loop-left
invariant-loop-left l = record {
  within : l.left ≤ length l.behind;
  so_far : joined (string_bytes l.text) (fields_of (take l.left l.behind)) ≡ joined l.name (fields_of l.behind);
}

abbrev pub decreases-loop-left : goal.decreases-loop-left
decreases-loop-left l = l.left
