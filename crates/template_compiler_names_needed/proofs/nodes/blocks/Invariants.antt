-- The blocks so far, and those that are left.
use Rattle.std.proofs.Common.{◌≡◌, ◌++◌, [], drop}
use Rattle.template_compiler_tree_parts.specs.Within.{joined, trees_of}
use Rattle.template_compiler_names_needed.specs.Seen.{own_blocks, trees_in}
use Rattle.template_compiler_names_needed.proofs.nodes.blocks.Given as goal

abbrev pub invariant-loop-i : goal.invariant-loop-i
invariant-loop-i l =
    trees_in l.nodes.items ++ joined [] ◌++◌ own_blocks (trees_of (drop l.i l.statements.items)) ≡ joined [] ◌++◌ own_blocks (trees_of l.statements.items)
