use Rattle.std.proofs.Common.{◌≡◌, drop, fold, length, map, min}
use Rattle.template_builtins_lists.proofs.zips.shortest_after.Given as goal

-- the least so far and the lists that are left make the same
abbrev pub invariant-loop-items : goal.invariant-loop-items
invariant-loop-items l =
    fold (λ n items. min n (length items)) l.fn.start (map (λ items. items.items) l.lists)
    ≡ fold (λ n items. min n (length items)) l.least (map (λ items. items.items) (drop l.items-index l.lists))
