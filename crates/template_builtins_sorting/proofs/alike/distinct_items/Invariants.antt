use Rattle.std.proofs.Common.{◌≡◌, map, take}
use Rattle.template_builtins_sorting.specs.Alike.{distinct}
use Rattle.template_builtins_sorting.proofs.Equals.{Knows}
use Rattle.template_builtins_sorting.proofs.alike.distinct_items.Given as goal

-- the items that were kept, and the keys that were met
abbrev pub invariant-loop-next : goal.invariant-loop-next
invariant-loop-next l =
    (l.items.items ≡ map (λ x. x.item) (distinct (take l.next-index l.keyed))) × Knows l.seen.keys (take l.next-index l.keyed)
