-- What `map` makes with a path.
use Rattle.std.proofs.Common.{◌≡◌, ◌∙◌, ℕ, List, [], ◌∷◌, Option, Ok, codes}
use Rattle.template_values_model.specs.Val.{Val}
use Rattle.template_callables.specs.Callables.{View}
use Rattle.template_builtins_arguments.specs.Arguments.{arguments}
use Rattle.template_builtins_arguments.specs.Parts.{items_of}
use Rattle.template_builtins_paths.specs.Items.{each}
use Rattle.template_builtins_paths.specs.Paths.{part_of}
use Rattle.template_builtins_paths.proofs.Steps.{after_ok}
use Rattle.template_builtins_callables.specs.Each.{listed, parts_made, path_at}

-- the arguments, the items and the path are found
pub parts_are : (view : View) (v : Val) (vs : List Val) (given : ℕ → Option Val) (items : List Val) (path : Val)
    → arguments (codes "attribute" ∷ codes "default" ∷ []) 1 vs ≡ Ok given → items_of view v ≡ Ok items → path_at (given 0) ≡ Ok path
    → parts_made view v vs ≡ listed (each (λ item. part_of view item path (given 1)) items)
unfolding parts_made
parts_are view v vs given items path givens are is =
    after_ok (arguments (codes "attribute" ∷ codes "default" ∷ []) 1 vs) given _ givens
    ∙ after_ok (items_of view v) items _ are ∙ after_ok (path_at (given 0)) path _ is
