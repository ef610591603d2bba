use Rattle.std.proofs.Common.{◌≡◌, map}
use Rattle.template_builtins_sorting.proofs.ordering.items_in.Given as goal

abbrev pub invariant-loop-keyed : goal.invariant-loop-keyed
invariant-loop-keyed l = l.items.items ≡ map (λ k. k.item) l.yielded
