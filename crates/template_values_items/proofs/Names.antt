-- What a loop has under a name that is none of some words.
use Rattle.std.proofs.Common.{◌≡◌, ◌∙◌, ◌-◌, ◌==◌, ℕ, suc, pos, false, List, length, unwrap_or, slice_get, if◌then◌else◌, codes, bytes_eq, refl, ap}
use Rattle.std.proofs.lemmas.Bool.{false_from_ne_true}
use Rattle.std.proofs.lemmas.Slice.Eq.{bytes_eq-Decides}
use Rattle.template_values_model.specs.Val.{Val, undefined, truth, int}
use Rattle.template_values_operators.specs.Records.{is_last, item_before, loop_value}
use Rattle.template_values_items.specs.Loops.{loop_rest}

not_named : (n w : List ℕ) → (n ≡ w → ⊥) → bytes_eq n w ≡ false
not_named n w h = false_from_ne_true (bytes_eq n w) (λ e. h ((bytes_eq-Decides n w).0 e))

else_of : {A : Type 0} (x : A) {y z : A} (n w : List ℕ) → (n ≡ w → ⊥) → y ≡ z → (if bytes_eq n w then x else y) ≡ z
else_of x {y = y} n w h k = ap (λ b. if b then x else y) (not_named n w h) ∙ k

pub nothing_named : (n : List ℕ) (items : List Val) (place depth : ℕ) → (n ≡ codes "first" → ⊥) → (n ≡ codes "last" → ⊥)
    → (n ≡ codes "depth" → ⊥) → (n ≡ codes "depth0" → ⊥) → (n ≡ codes "previtem" → ⊥) → (n ≡ codes "nextitem" → ⊥)
    → loop_rest n items place depth ≡ undefined
nothing_named n items place depth a b c d e f =
    else_of (truth (place == 0)) n (codes "first") a (else_of (truth (is_last place (length items))) n (codes "last") b
    (else_of (int (pos (suc depth))) n (codes "depth") c (else_of (int (pos depth)) n (codes "depth0") d
    (else_of (unwrap_or (item_before place items) undefined) n (codes "previtem") e
    (else_of (unwrap_or (slice_get items (suc place)) undefined) n (codes "nextitem") f refl)))))

pub rest_named : (n : List ℕ) (items : List Val) (place depth : ℕ) → (n ≡ codes "index0" → ⊥) → (n ≡ codes "index" → ⊥)
    → (n ≡ codes "length" → ⊥) → (n ≡ codes "revindex" → ⊥) → (n ≡ codes "revindex0" → ⊥)
    → loop_value n items place depth ≡ loop_rest n items place depth
rest_named n items place depth a b c d e =
    else_of (int (pos place)) n (codes "index0") a (else_of (int (pos (suc place))) n (codes "index") b
    (else_of (int (pos (length items))) n (codes "length") c (else_of (int (pos (length items - place))) n (codes "revindex") d
    (else_of (int (pos (length items - place - 1))) n (codes "revindex0") e refl))))
