-- The pairs of a map that is made from pairs.
use Rattle.std.specs.Prelude.{ℕ, List, map, [], ◌∷◌, Option, None, Some, if◌then◌else◌}
use Rattle.std.specs.Borrow.{Bor}
use Rattle.std.specs.Option.{option_or}
use Rattle.std.specs.Ordering.{is_eq}
use Rattle.std.specs.BTreeMap.{insert_entry}
use Rattle.template_values_model.specs.Val.{Val, Pairs, text, no_pairs, pairs_more}
use Rattle.template_values_model.specs.Lookup.{is_text}
use Rattle.template_values_core.specs.Order.{val_cmp}

-- a list of pairs as `Pairs`
abbrev pub pairs_of : List (Val × Val) → Pairs
pairs_of [] = no_pairs
pairs_of (p ∷ ps) = pairs_more p.0 p.1 (pairs_of ps)

-- the pairs `given` are put in turn: a new key at its place in the order of keys; a key that is there
-- already stays and takes the new value
abbrev pub put_all : List (Val × Val) → List (Val × Val) → List (Val × Val)
put_all kept [] = kept
put_all kept (p ∷ given) = put_all (insert_entry val_cmp kept p.0 p.1) given

-- the pairs of the map that is made from the pairs given
abbrev pub collected : List (Val × Val) → Pairs
collected given = pairs_of (put_all [] given)

-- a pair, then the pairs given: of neighbours with equal keys the first key stays, with the last value
abbrev pub merged_after : Val × Val → List (Val × Val) → List (Val × Val)
merged_after p [] = p ∷ []
merged_after p (q ∷ given) = if is_eq (val_cmp q.0 p.0) then merged_after (p.0, q.1) given else p ∷ merged_after q given

abbrev pub merged : List (Val × Val) → List (Val × Val)
merged [] = []
merged (p ∷ given) = merged_after p given

-- the pairs of names and values, each under the name's plain text
abbrev pub named_pairs : List (Bor (List ℕ) × Val) → List (Val × Val)
named_pairs = map (λ p. (text p.0.now, p.1))

-- the value of the last pair given whose key is this text
abbrev pub last_at : List ℕ → List (Val × Val) → Option Val
last_at name [] = None
last_at name (p ∷ given) = option_or (last_at name given) (if is_text name p.0 then Some p.1 else None)

-- the value of the first pair whose key is equal to this one
abbrev pub entry_under : Val → Pairs → Option Val
entry_under k no_pairs = None
entry_under k (pairs_more j v ps) = if is_eq (val_cmp j k) then Some v else entry_under k ps

-- the value of the last pair given whose key is equal to this one
abbrev pub last_under : Val → List (Val × Val) → Option Val
last_under k [] = None
last_under k (p ∷ given) = option_or (last_under k given) (if is_eq (val_cmp p.0 k) then Some p.1 else None)
