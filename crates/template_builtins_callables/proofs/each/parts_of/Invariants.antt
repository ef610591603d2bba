use Rattle.std.proofs.Common.{◌≡◌, drop, option_copied}
use Rattle.template_callables.specs.Views.{seen_in}
use Rattle.template_builtins_paths.specs.Items.{each}
use Rattle.template_builtins_paths.specs.Paths.{part_of}
use Rattle.template_builtins_paths.proofs.Each.{onto}
use Rattle.template_builtins_callables.proofs.each.parts_of.Given as goal

-- the parts so far stand before those of the items that are left
abbrev pub invariant-loop-item : goal.invariant-loop-item
invariant-loop-item l =
    each (λ item. part_of (seen_in l.view) item l.path (option_copied l.default)) l.items
    ≡ onto l.parts.items (each (λ item. part_of (seen_in l.view) item l.path (option_copied l.default)) (drop l.item-index l.items))
