use Rattle.std.proofs.Common.{◌≡◌, ◌≤◌, length, take, reverse}
use Rattle.template_machine_meaning.specs.Blocks.{is_among}
use Rattle.template_machine_state.specs.Loaded.{names_in}
use Rattle.template_machine_state.proofs.names.is_among.Given as goal

abbrev pub invariant-loop-left : goal.invariant-loop-left
invariant-loop-left l = record {
  within : l.left ≤ length l.names;
  rest : is_among l.name (names_in (reverse (take l.left l.names))) ≡ is_among l.name (names_in (reverse l.names));
}

abbrev pub decreases-loop-left : goal.decreases-loop-left
decreases-loop-left l = l.left
