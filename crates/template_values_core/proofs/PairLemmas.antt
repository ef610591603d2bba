-- Lemmas on entries and the pairs that they hold.
use Rattle.std.proofs.Common.{◌≡◌, ℕ, List, [], ◌∷◌, ◌++◌, refl, sym, ◌∙◌, ap, Bor}
use Rattle.std.proofs.lemmas.List.{map-append}
use Rattle.template_values_model.specs.Val.{Val, text}
use Rattle.template_values_core.specs.Maps.{named_pairs}
use Rattle.template_values_core.specs.Shape.{pairs_in}
use Rattle.template_values_core.specs.declared.value.Entry.{Entry}

pub pairs_in_push : (es : List Entry) (e : Entry) (rest : List (Val × Val)) → pairs_in (es ++ e ∷ []) ++ rest
    ≡ pairs_in es ++ (e.key, e.value) ∷ rest
pairs_in_push [] e rest = refl
pairs_in_push (x ∷ es) e rest = ap (λ (ps : List (Val × Val)). (x.key, x.value) ∷ ps) (pairs_in_push es e rest)

pub pairs_in-append : (es : List Entry) (e : Entry) → pairs_in (es ++ e ∷ []) ≡ pairs_in es ++ (e.key, e.value) ∷ []
pairs_in-append [] e = refl
pairs_in-append (x ∷ es) e = ap (λ (ps : List (Val × Val)). (x.key, x.value) ∷ ps) (pairs_in-append es e)

-- one pair of a name and a value more
pub named_next : (es : List Entry) (given : List (Bor (List ℕ) × Val)) (name : Bor (List ℕ)) (k v : Val) → pairs_in es ≡ named_pairs given
    → k ≡ text name.now → pairs_in (es ++ record { key = k; value = v } ∷ []) ≡ named_pairs (given ++ (name, v) ∷ [])
named_next es given name k v before is =
    pairs_in-append es (record { key = k; value = v }) ∙ (λ i. before i ++ (is i, v) ∷ [])
    ∙ sym (map-append (λ (p : Bor (List ℕ) × Val). (text p.0.now, p.1)) given ((name, v) ∷ []))
