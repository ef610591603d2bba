use Rattle.std.proofs.Common.{◌≡◌, drop}
use Rattle.template_callables.specs.Views.{seen_in}
use Rattle.template_builtins_lists.specs.Chains.{items_of_all, put_onto}
use Rattle.template_builtins_lists.proofs.chains.with_items_of_all.Given as goal

-- the items so far stand before those of the values that are left
abbrev pub invariant-loop-value : goal.invariant-loop-value
invariant-loop-value l =
    put_onto l.fn.front.items (items_of_all (seen_in l.view) l.values)
    ≡ put_onto l.whole.items (items_of_all (seen_in l.view) (drop l.value-index l.values))
