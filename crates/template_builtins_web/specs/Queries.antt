-- Values as they stand in a URL, and pairs of them as its query.
use Rattle.std.specs.Prelude.{ℕ, true, false, List, [], ◌∷◌, ◌++◌, codes, Result, Ok}
use Rattle.template_values_errors.specs.declared.ErrorKind.{ErrorKind}
use Rattle.template_values_model.specs.Val as value
use Rattle.template_values_model.specs.Val.{Val, Vals, Pairs, no_vals, vals_more, no_pairs, pairs_more}
use Rattle.template_callables.specs.Callables.{View}
use Rattle.template_builtins_arguments.specs.Answers.{refused, then}
use Rattle.template_builtins_arguments.specs.Parts.{text_of}
use Rattle.template_builtins_web.specs.Pieces.{followed}
use Rattle.template_builtins_web.specs.Urls.{escaped}

-- key=value, behind what stands between two pairs
abbrev pub pair_text : View → List ℕ → Val → Val → Result (List ℕ) ErrorKind
pair_text view before k v =
    then (text_of view k) (λ s.
    then (text_of view v) (λ t.
    Ok (before ++ (escaped false s ++ 61 ∷ escaped false t))))

-- the pairs of a map
abbrev pub members_text : View → List ℕ → Pairs → Result (List ℕ) ErrorKind
members_text view before no_pairs = Ok []
members_text view before (pairs_more k v ps) = followed (pair_text view before k v) (members_text view (codes "&") ps)

-- a list or tuple of two
abbrev pub two_text : View → List ℕ → Vals → Result (List ℕ) ErrorKind
two_text view before (vals_more k (vals_more v no_vals)) = pair_text view before k v
two_text view before _ = refused

abbrev pub item_text : View → List ℕ → Val → Result (List ℕ) ErrorKind
item_text view before (value.list vs) = two_text view before vs
item_text view before (value.tuple vs) = two_text view before vs
item_text view before _ = refused

abbrev pub items_text : View → List ℕ → Vals → Result (List ℕ) ErrorKind
items_text view before no_vals = Ok []
items_text view before (vals_more v vs) = followed (item_text view before v) (items_text view (codes "&") vs)

-- pairs with & between them, or the printed form
abbrev pub url_text : View → Val → Result (List ℕ) ErrorKind
url_text view (value.map ps) = members_text view [] ps
url_text view (value.keyword_map ps) = members_text view [] ps
url_text view (value.«module» ps s) = members_text view [] ps
url_text view (value.list vs) = items_text view [] vs
url_text view (value.tuple vs) = items_text view [] vs
url_text view v = then (text_of view v) (λ s. Ok (escaped true s))
