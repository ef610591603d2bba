use Rattle.std.proofs.Common.{◌≡◌, ◌∷◌, drop, map}
use Rattle.template_callables.specs.Views.{seen_in}
use Rattle.template_builtins_arguments.specs.Parts.{items_of}
use Rattle.template_builtins_paths.specs.Items.{each}
use Rattle.template_builtins_paths.proofs.Each.{onto}
use Rattle.template_builtins_lists.proofs.zips.lists_of.Given as goal

-- the lists so far stand before those of the values that are left
abbrev pub invariant-loop-other : goal.invariant-loop-other
invariant-loop-other l =
    each (items_of (seen_in l.view)) (l.value ∷ l.others)
    ≡ onto (map (λ items. items.items) l.lists.items) (each (items_of (seen_in l.view)) (drop l.other-index l.others))
