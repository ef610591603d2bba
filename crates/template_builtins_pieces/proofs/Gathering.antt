-- The texts of values, one by one.
use Rattle.std.proofs.Common.{◌≡◌, ℕ, ◌+◌, ◌<◌, ◌≤◌, List, [], ◌∷◌, ◌++◌, length, drop, get_or, Result, Ok, Err, Bor, refl, sym, ap, ◌∙◌, append-nil, append_assoc}
use Rattle.std.specs.List.{flat_map, join_by}
use Rattle.std.proofs.lemmas.List.{at_drop_all, at_drop_more}
use Rattle.template_values_errors.specs.declared.ErrorKind.{ErrorKind}
use Rattle.template_values_model.specs.Val.{Val}
use Rattle.template_builtins_arguments.specs.Answers.{then as after}
use Rattle.template_builtins_pieces.specs.Joins.{texts_of}
use Rattle.template_builtins_pieces.specs.Reading.{all_shown, plain_text}

-- texts before those that come
abbrev pub behind : List (List ℕ) → Result (List (List ℕ)) ErrorKind → Result (List (List ℕ)) ErrorKind
behind front rest = after rest (λ parts. Ok (front ++ parts))

one_more : (front : List (List ℕ)) (s : List ℕ) (rest : Result (List (List ℕ)) ErrorKind) → behind front (after rest (λ parts. Ok (s ∷ parts))) ≡ behind (front ++ s ∷ []) rest
one_more front s (Ok parts) = ap Ok (sym (append_assoc front (s ∷ []) parts))
one_more front s (Err kind) = refl

turn : (vs : List Val) (k : ℕ) (v : Val) → k < length vs → v ≡ get_or vs k v → texts_of (drop k vs) ≡ texts_of (v ∷ drop (k + 1) vs)
turn vs k v h e = at_drop_more texts_of vs k v h ∙ ap (λ (z : Val). texts_of (z ∷ drop (k + 1) vs)) (sym e)

pub text_comes : (front : List (List ℕ)) (vs : List Val) (k : ℕ) (v : Val) (s : List ℕ) → k < length vs → v ≡ get_or vs k v → plain_text v ≡ Ok s
    → behind front (texts_of (drop k vs)) ≡ behind (front ++ s ∷ []) (texts_of (drop (k + 1) vs))
text_comes front vs k v s h e found =
    ap (behind front) (turn vs k v h e)
    ∙ ap (λ r. behind front (after r (λ t. after (texts_of (drop (k + 1) vs)) (λ rest. Ok (t ∷ rest))))) found
    ∙ one_more front s (texts_of (drop (k + 1) vs))

pub text_fails : (front : List (List ℕ)) (vs : List Val) (k : ℕ) (v : Val) (kind : ErrorKind) → k < length vs → v ≡ get_or vs k v → plain_text v ≡ Err kind
    → behind front (texts_of (drop k vs)) ≡ Err kind
text_fails front vs k v kind h e found =
    ap (behind front) (turn vs k v h e)
    ∙ ap (λ r. behind front (after r (λ t. after (texts_of (drop (k + 1) vs)) (λ rest. Ok (t ∷ rest))))) found

pub texts_end : (front : List (List ℕ)) (vs : List Val) (k : ℕ) → length vs ≤ k → behind front (texts_of (drop k vs)) ≡ Ok front
texts_end front vs k h = ap (behind front) (at_drop_all texts_of vs k h) ∙ ap Ok (append-nil front)

flat_shown : (sep : List ℕ) (parts : List (Bor (List ℕ))) → flat_map (λ (x : Bor (List ℕ)). sep ++ x.now) parts ≡ flat_map (λ (x : List ℕ). sep ++ x) (all_shown parts)
flat_shown sep [] = refl
flat_shown sep (x ∷ parts) = ap (λ (s : List ℕ). (sep ++ x.now) ++ s) (flat_shown sep parts)

pub join_shown : (sep : List ℕ) (parts : List (Bor (List ℕ))) → join_by (λ (x : Bor (List ℕ)). x.now) sep parts ≡ join_by (λ (x : List ℕ). x) sep (all_shown parts)
join_shown sep [] = refl
join_shown sep (x ∷ parts) = ap (λ (s : List ℕ). x.now ++ s) (flat_shown sep parts)
