-- The entries that were made so far of keys and values, and those that are left.
use Rattle.std.proofs.Common.{◌≡◌, ℕ, ◌+◌, ◌<◌, ◌≤◌, List, [], ◌∷◌, ◌++◌, length, get_or, drop, refl, sym, ap, ◌∙◌, append-nil}
use Rattle.std.proofs.lemmas.List.{drop_more, drop_all}
use Rattle.template_values_model.specs.Val.{Val}
use Rattle.template_values_core.specs.Shape.{pairs_in}
use Rattle.template_values_core.proofs.PairLemmas.{pairs_in_push}
use Rattle.template_values_core.specs.declared.value.Entry.{Entry}
use Rattle.template_compiler_walk.specs.Containers.{pairs_with}

-- one pair more
pub one_pair : (ks vs : List Val) (i : ℕ) (k v : Val) (es : List Entry) → i < length ks → i < length vs → k ≡ get_or ks i k → v ≡ get_or vs i v
    → pairs_in es ++ pairs_with (drop i ks) (drop i vs)
    ≡ pairs_in (es ++ record { key = k; value = v } ∷ []) ++ pairs_with (drop (i + 1) ks) (drop (i + 1) vs)
one_pair ks vs i k v es keys values key value =
    let rest = pairs_with (drop (i + 1) ks) (drop (i + 1) vs) in
    ap (λ (l : List Val). pairs_in es ++ pairs_with l (drop i vs)) (drop_more ks i k keys) ∙
    ap (λ (l : List Val). pairs_in es ++ pairs_with (get_or ks i k ∷ drop (i + 1) ks) l) (drop_more vs i v values) ∙
    ap (λ (x : Val). pairs_in es ++ (x, get_or vs i v) ∷ rest) (sym key) ∙
    ap (λ (x : Val). pairs_in es ++ (k, x) ∷ rest) (sym value) ∙
    sym (pairs_in_push es (record { key = k; value = v }) rest)

-- no key is left, or no value
pub no_key : (ks vs : List Val) (i : ℕ) (es : List Entry) → length ks ≤ i → pairs_in es ++ pairs_with (drop i ks) (drop i vs) ≡ pairs_in es
no_key ks vs i es all =
    ap (λ (l : List Val). pairs_in es ++ pairs_with l (drop i vs)) (drop_all i ks all) ∙ append-nil (pairs_in es)

none_behind : (ks : List Val) → pairs_with ks [] ≡ []
none_behind [] = refl
none_behind (k ∷ ks) = refl

pub no_value : (ks vs : List Val) (i : ℕ) (es : List Entry) → length vs ≤ i → pairs_in es ++ pairs_with (drop i ks) (drop i vs) ≡ pairs_in es
no_value ks vs i es all =
    ap (λ (l : List Val). pairs_in es ++ pairs_with (drop i ks) l) (drop_all i vs all) ∙
    ap (λ ps. pairs_in es ++ ps) (none_behind (drop i ks)) ∙ append-nil (pairs_in es)
