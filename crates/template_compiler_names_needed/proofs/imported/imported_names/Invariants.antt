-- The names so far, and those that are left.
use Rattle.std.proofs.Common.{◌≡◌, ℕ, ◌||◌, false, List, drop}
use Rattle.template_compiler_tree_parts.specs.Within.{joined, trees_of}
use Rattle.template_compiler_names.specs.Among.{is_among}
use Rattle.template_compiler_names_needed.specs.Needed.{own_imports}
use Rattle.template_compiler_names_needed.proofs.imported.imported_names.Given as goal

abbrev pub invariant-loop-i : goal.invariant-loop-i
invariant-loop-i l = (q : List ℕ) →
    (is_among l.names.items q || joined false ◌||◌ (λ s. own_imports s q) (trees_of (drop l.i l.statements.items)))
    ≡ joined false ◌||◌ (λ s. own_imports s q) (trees_of l.statements.items)
