-- The parts so far, and those that are left.
use Rattle.std.proofs.Common.{◌≡◌, ◌++◌, [], drop}
use Rattle.template_compiler_tree_parts.specs.Within.{joined, trees_of}
use Rattle.template_compiler_names_closures.specs.Bodies.{own_part}
use Rattle.template_compiler_names_closures.specs.Units.{parts_in}
use Rattle.template_compiler_names_closures.proofs.listing.units_among.Given as goal

abbrev pub invariant-loop-i : goal.invariant-loop-i
invariant-loop-i l =
    parts_in l.found.items ++ joined [] ◌++◌ own_part (trees_of (drop l.i l.statements.items)) ≡ joined [] ◌++◌ own_part (trees_of l.statements.items)
