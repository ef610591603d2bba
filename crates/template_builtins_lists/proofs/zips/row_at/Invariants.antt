use Rattle.std.proofs.Common.{◌≡◌, ◌++◌, drop, map}
use Rattle.template_builtins_lists.specs.Zips.{row_at as items_at}
use Rattle.template_builtins_lists.proofs.zips.row_at.Given as goal

-- the items so far stand before those of the lists that are left
abbrev pub invariant-loop-items : goal.invariant-loop-items
invariant-loop-items l =
    items_at (map (λ items. items.items) l.lists) l.k
    ≡ l.row.items ++ items_at (map (λ items. items.items) (drop l.items-index l.lists)) l.k
