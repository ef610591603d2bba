-- Whether a value is all that a text is.
use Rattle.std.proofs.Common.{◌≡◌, List, [], ◌∷◌, Bool, true, false, Option, None, Some, MatchOption, is_some, not, unwrap_or, option_map, option_and_then, refl, ap, ◌∙◌}
use Rattle.json.specs.Json.{Json, if_last}
use Rattle.json.specs.Token.{Token}

-- the text is JSON, where a value is read and the rest is passed
abbrev pub is_all : Option (Json × List Token) → Bool
is_all read = is_some (option_and_then (λ p. if_last p.0 p.1) read)

same_rest : (rest later : List Token) → Some rest ≡ Some later → rest ≡ later
same_rest rest later same = ap (λ (o : Option (List Token)). unwrap_or o rest) same

by_some : (b some : Bool) → some ≡ not b → b ≡ not some
by_some true some h = rw h refl
by_some false some h = rw h refl

-- nothing follows the value
pub all_by_next : {T : Type 0} (b : Bool) (read : Option (Json × List Token)) (rest new : List Token) (next : Option T) (as_token : T → Token) → is_some next ≡ not b
    → option_map (λ p. p.1) read ≡ Some rest → MatchOption next ((rest ≡ []) × (new ≡ [])) (λ t. rest ≡ as_token t ∷ new) → b ≡ is_all read
all_by_next b None rest new next as_token is same follows = absurd (cc)
all_by_next b (Some (j, ts)) rest new None as_token is same follows =
    let none : ts ≡ [] = same_rest ts rest same ∙ follows.0 in
    rw none (by_some b false is)
all_by_next b (Some (j, ts)) rest new (Some t) as_token is same follows =
    let more : ts ≡ as_token t ∷ new = same_rest ts rest same ∙ follows in
    rw more (by_some b true is)

-- there is no value
pub all_of_none : (read : Option (Json × List Token)) → option_map (λ p. p.1) read ≡ None → false ≡ is_all read
all_of_none None same = refl
all_of_none (Some p) same = absurd (cc)
