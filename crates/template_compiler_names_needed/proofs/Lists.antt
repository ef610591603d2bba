-- Blocks with one more at the end.
use Rattle.std.proofs.Common.{◌≡◌, List, [], ◌∷◌, ◌++◌, refl, ap}
use Rattle.std.specs.Borrow.{Bor}
use Rattle.template_compiler_tree_statements.specs.declared.statements.Block.{Block as BlockNode}
use Rattle.template_compiler_names_needed.specs.Seen.{tree_of, trees_in}

pub trees_push : (xs : List (Bor BlockNode)) (x : Bor BlockNode) → trees_in (xs ++ x ∷ []) ≡ trees_in xs ++ tree_of x.now ∷ []
trees_push [] x = refl
trees_push (y ∷ xs) x = ap (λ ts. tree_of y.now ∷ ts) (trees_push xs x)
