-- What can be read of a value.
use Rattle.std.specs.Prelude.{ℕ, ℤ, pos, Bool, true, false, not, List, [], ◌∷◌, Option, None, Some}
use Rattle.std.specs.Ordering.{int_eq}
use Rattle.template_values_model.specs.Val.{Val, Vals, Pairs, undefined, silent_undefined, none, truth, int, text, safe_text, bytes, list, tuple, map, keyword_map, «module», items_of, no_vals, vals_more, no_pairs, pairs_more}
use Rattle.template_values_core.specs.Maps.{entry_under}

-- a whole number, no truth value
abbrev pub whole_number : Val → Option ℤ
whole_number (int n) = Some n
whole_number _ = None

-- a number: a truth value counts as 0 or 1
abbrev pub number_of : Val → Option ℤ
number_of (truth false) = Some (pos 0)
number_of (truth true) = Some (pos 1)
number_of (int n) = Some n
number_of _ = None

-- the items of a list or a tuple
abbrev pub items_in : Val → Option (List Val)
items_in (list vs) = Some (items_of vs)
items_in (tuple vs) = Some (items_of vs)
items_in _ = None

-- the pairs of a map, a keyword map or a module
abbrev pub pairs_held : Val → Option Pairs
pairs_held (map ps) = Some ps
pairs_held (keyword_map ps) = Some ps
pairs_held («module» ps s) = Some ps
pairs_held _ = None

-- the value under an equal key of a map, a keyword map or a module
abbrev pub value_under : Val → Val → Option Val
value_under k (map ps) = entry_under k ps
value_under k (keyword_map ps) = entry_under k ps
value_under k («module» ps s) = entry_under k ps
value_under k _ = None

abbrev pub has_bytes : List ℕ → Bool
has_bytes [] = false
has_bytes (x ∷ xs) = true

abbrev pub has_items : Vals → Bool
has_items no_vals = false
has_items (vals_more v vs) = true

abbrev pub has_pairs : Pairs → Bool
has_pairs no_pairs = false
has_pairs (pairs_more k v ps) = true

-- whether a value counts as true. A record counts as true here, also an empty namespace.
abbrev pub is_true : Val → Bool
is_true undefined = false
is_true silent_undefined = false
is_true none = false
is_true (truth b) = b
is_true (int n) = not (int_eq n (pos 0))
is_true (text s) = has_bytes s
is_true (safe_text s) = has_bytes s
is_true (bytes s) = has_bytes s
is_true (list vs) = has_items vs
is_true (tuple vs) = has_items vs
is_true (map ps) = has_pairs ps
is_true («module» ps s) = has_pairs ps
is_true _ = true
