-- What a value is compared by, as the program holds it.
use Rattle.std.specs.Prelude.{◌≡◌, ℕ, ◌+◌, ◌≤◌, max, pos, List, [], ◌∷◌}
use Rattle.template_values_model.specs.Val.{Val, vals_of}
use Rattle.template_values_core.specs.Depth.{depth}
use Rattle.template_values_core.specs.Maps.{pairs_of}
use Rattle.template_values_core.specs.Order.{Key, ranked, vals_key, pairs_key}
use Rattle.template_values_core.specs.Shape.{pairs_in}
use Rattle.template_values_core.specs.declared.value.Entry.{Entry}
use Rattle.template_values_core.specs.declared.order.Parts.{Parts}

-- one more than the deepest of the values; 0 of none
abbrev pub items_deep : List Val → ℕ
items_deep [] = 0
items_deep (v ∷ vs) = max (depth v + 1) (items_deep vs)

abbrev pub entries_deep : List Entry → ℕ
entries_deep [] = 0
entries_deep (e ∷ es) = max (max (depth e.key + 1) (depth e.value + 1)) (entries_deep es)

abbrev pub key_of : Parts → Key
key_of p = ranked (pos p.rank) p.number (pos p.second) p.text.now (vals_key (vals_of p.items.now))
    (pairs_key (pairs_of (pairs_in p.entries.now)))

-- the parts make up the key, and what they hold is less deep than `levels`
abbrev pub IsKeyOf : Parts → Key → ℕ → Type 0
IsKeyOf p k levels = (k ≡ key_of p) × (items_deep p.items.now ≤ levels) × (entries_deep p.entries.now ≤ levels)
