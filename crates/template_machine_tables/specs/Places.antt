-- Where a key stands among entries.
use Rattle.std.specs.Prelude.{ℕ, ◌+◌, List, [], ◌∷◌, Result, Ok, Err}
use Rattle.std.specs.Ordering.{match_ordering}
use Rattle.template_values_model.specs.Val.{Val}
use Rattle.template_values_core.specs.Order.{val_cmp}

-- from a place on: the place of the key; or where it would go, in front of the first key above it
abbrev pub place_from : ℕ → Val → List (Val × Val) → Result ℕ ℕ
place_from place k [] = Err place
place_from place k (e ∷ es) = match_ordering (val_cmp k e.0) (Err place) (Ok place) (place_from (place + 1) k es)

abbrev pub place_among : Val → List (Val × Val) → Result ℕ ℕ
place_among = place_from 0
