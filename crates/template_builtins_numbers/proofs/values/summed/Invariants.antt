use Rattle.std.proofs.Common.{◌≡◌, drop, option_copied}
use Rattle.template_callables.specs.Views.{seen_in}
use Rattle.template_builtins_numbers.specs.Values.{summed}
use Rattle.template_builtins_numbers.proofs.values.summed.Given as goal

-- the total and what is left come to what the start and the whole come to
abbrev pub invariant-loop-item : goal.invariant-loop-item
invariant-loop-item l =
    summed (seen_in l.view) (option_copied l.path) l.fn.start l.items
    ≡ summed (seen_in l.view) (option_copied l.path) l.total (drop l.item-index l.items)
