use Rattle.std.proofs.Common.{◌≡◌, drop, map}
use Rattle.std.specs.List.{range_with_len}
use Rattle.template_builtins_paths.specs.Items.{each}
use Rattle.template_builtins_paths.proofs.Each.{onto}
use Rattle.template_builtins_lists.specs.Zips.{tuple_at}
use Rattle.template_builtins_lists.proofs.zips.rows_of.Given as goal

-- the rows so far stand before those that are left
abbrev pub invariant-loop-k : goal.invariant-loop-k
invariant-loop-k l =
    each (tuple_at (map (λ items. items.items) l.lists)) (range_with_len 0 l.count)
    ≡ onto l.rows.items (each (tuple_at (map (λ items. items.items) l.lists)) (drop l.k (range_with_len 0 l.count)))
