-- The names so far, and those of the blocks that are left.
use Rattle.std.proofs.Common.{◌≡◌, ◌++◌, [], drop}
use Rattle.template_compiler_tree_parts.specs.Within.{joined, trees_of}
use Rattle.template_compiler_sources.specs.Own.{own_name}
use Rattle.template_compiler_sources.specs.Waiting.{texts_in}
use Rattle.template_compiler_sources.proofs.names.block_names.Given as goal

abbrev pub invariant-loop-i : goal.invariant-loop-i
invariant-loop-i l =
    texts_in l.names.items ++ joined [] ◌++◌ own_name (trees_of (drop l.i l.blocks.items)) ≡ joined [] ◌++◌ own_name (trees_of l.blocks.items)
