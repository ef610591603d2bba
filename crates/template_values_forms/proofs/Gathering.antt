-- Values that are frozen one behind the other.
use Rattle.std.proofs.Common.{◌≡◌, ◌+◌, ◌<◌, ℕ, List, [], ◌∷◌, ◌++◌, length, drop, get_or, append_assoc, Result, Ok, Err, refl, sym, ap, ◌∙◌}
use Rattle.std.proofs.lemmas.List.{at_drop_more}
use Rattle.template_values_model.specs.Fault.{Fault}
use Rattle.template_values_model.specs.Val.{Val}
use Rattle.template_values_core.proofs.PairLemmas.{pairs_in-append}
use Rattle.template_values_core.specs.Maps.{pairs_of}
use Rattle.template_values_core.specs.Shape.{pairs_in}
use Rattle.template_values_core.specs.declared.value.Entry.{Entry}
use Rattle.template_values_forms.specs.Answers.{mapped}
use Rattle.template_values_forms.specs.Frozen.{both, frozen_pairs, one_more}

-- a list from an item on
pub drop_at : {A : Type 0} (xs : List A) (i : ℕ) (x : A) → i < length xs → x ≡ get_or xs i x → drop i xs ≡ x ∷ drop (i + 1) xs
drop_at xs i x within read = at_drop_more (λ ys. ys) xs i x within ∙ ap (λ y. y ∷ drop (i + 1) xs) (sym read)

-- one more was frozen
one_behind : {T : Type 0} (xs : List T) (x : T) (a : Result T Fault) (r : Result (List T) Fault) → a ≡ Ok x
    → mapped (λ ys. xs ++ ys) (one_more a r) ≡ mapped (λ ys. (xs ++ x ∷ []) ++ ys) r
one_behind xs x a (Ok ys) is = rw is (ap (λ zs. Ok zs) (sym (append_assoc xs (x ∷ []) ys)))
one_behind xs x a (Err fault) is = rw is refl

-- one entry more was frozen
pub entry_behind : (f : Val → Result Val Fault) (before after : List Entry) (e : Entry) (all : List Entry) (i : ℕ) (item : Entry)
    (whole : Result (List (Val × Val)) Fault)
    → i < length all → item ≡ get_or all i item → both (f item.key) (f item.value) ≡ Ok (e.key, e.value) → after ≡ before ++ e ∷ []
    → mapped (λ us. pairs_in before ++ us) (frozen_pairs f (pairs_of (pairs_in (drop i all)))) ≡ whole
    → mapped (λ us. pairs_in after ++ us) (frozen_pairs f (pairs_of (pairs_in (drop (i + 1) all)))) ≡ whole
entry_behind f before after e all i item whole within read is pushed h =
    let rest = frozen_pairs f (pairs_of (pairs_in (drop (i + 1) all))) in
    let put : pairs_in after ≡ pairs_in before ++ (e.key, e.value) ∷ [] = ap pairs_in pushed ∙ pairs_in-append before e in
    let left : drop i all ≡ item ∷ drop (i + 1) all = drop_at all i item within read in
    ap (λ (ps : List (Val × Val)). mapped (λ us. ps ++ us) rest) put
    ∙ sym (one_behind (pairs_in before) (e.key, e.value) (both (f item.key) (f item.value)) rest is)
    ∙ ap (λ (es : List Entry). mapped (λ us. pairs_in before ++ us) (frozen_pairs f (pairs_of (pairs_in es)))) (sym left) ∙ h
