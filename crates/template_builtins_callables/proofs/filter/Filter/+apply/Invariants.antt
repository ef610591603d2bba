use Rattle.std.proofs.Common.{◌≡◌, length, drop}
use Rattle.template_callables.specs.Views.{seen_in}
use Rattle.template_builtins_paths.specs.Items.{each}
use Rattle.template_builtins_paths.proofs.Each.{onto}
use Rattle.template_builtins_callables.specs.Filtered.{filtered}
use Rattle.template_builtins_callables.proofs.filter.Filter.+apply.Given as goal

abbrev pub decreases-apply : goal.decreases-apply
decreases-apply l = length l.arguments.now

-- what was made so far stands before what the items that are left come to
abbrev pub invariant-loop-item : goal.invariant-loop-item
invariant-loop-item l =
    each (λ item. filtered l.other (seen_in l.view) item l.rest) l.item-items
    ≡ onto l.made.items (each (λ item. filtered l.other (seen_in l.view) item l.rest) (drop l.item-index l.item-items))
