-- The places that are kept of names.
use Rattle.std.proofs.Common.{◌≡◌, ◌∙◌, ℕ, ◌+◌, ◌<◌, Bool, true, false, cond, List, Option, None, Some, refl, sym, ap, subst, arith, below_more}
use Rattle.std.specs.Borrow.{Bor}
use Rattle.std.specs.BTreeMap.{BTreeMap, UpdatesBy}
use Rattle.std.specs.Cmp.Lexicographic.{slice_cmp}
use Rattle.std.specs.Ordering.{nat_cmp}
use Rattle.std.specs.Str.{bytes_eq}
use Rattle.std.proofs.lemmas.Map.Text.{btree_map_updates_str}
use Rattle.std.proofs.lemmas.Slice.Eq.{bytes_eq-Decides}
use Rattle.template_program_reached.specs.Places.{text_at, kept_of, IsLast, IsPlace, TellPlaces}
use Rattle.template_program_reached.proofs.Under.{one_last}

-- a template of another name comes
other_comes : (texts : List (List ℕ × List ℕ)) (n : ℕ) (name : List ℕ) (o : Option ℕ) → ((text_at texts n).0 ≡ name → ⊥)
    → IsPlace texts n name o → IsPlace texts (n + 1) name o
other_comes texts n name (Some i) differs is = record {
  within = omega (arith, is.within);
  named = is.named;
  last = below_more (λ (k : ℕ). i < k → (text_at texts k).0 ≡ name → ⊥) n (is.last) (λ _ e. differs e);
}
other_comes texts n name None differs none = below_more (λ (k : ℕ). (text_at texts k).0 ≡ name → ⊥) n none differs

pub places_told_more : (before after : BTreeMap (Bor (List ℕ)) ℕ) (texts : List (List ℕ × List ℕ)) (n : ℕ) (name : List ℕ)
    → (text_at texts n).0 ≡ name
    → UpdatesBy (λ x y. slice_cmp nat_cmp x.now y.now) (λ k. slice_cmp nat_cmp name k.now) before after (Some n)
    → TellPlaces before texts n → TellPlaces after texts (n + 1)
places_told_more before after texts n name named updates tell = λ q.
    subst (IsPlace texts (n + 1) q) (sym (btree_map_updates_str name before after (Some n) updates q)) (by q (bytes_eq name q) refl)
  where
    by : (q : List ℕ) (b : Bool) → bytes_eq name q ≡ b → IsPlace texts (n + 1) q (cond b (Some n) (kept_of q before))
    by q true e = record { within = omega arith; named = named ∙ (bytes_eq-Decides name q).0 e; last = λ k h j _. absurd (omega arith) }
    by q false e = other_comes texts n q (kept_of q before)
        (λ is. let same : bytes_eq name q ≡ true = (bytes_eq-Decides name q).1 (sym named ∙ is) in cc) (tell q)

-- a place that is kept is the last, and the last place is kept
pub last_kept : (places : BTreeMap (Bor (List ℕ)) ℕ) (texts : List (List ℕ × List ℕ)) (n : ℕ) (name : List ℕ) (i : ℕ)
    → TellPlaces places texts n
    → kept_of name places ≡ Some i → IsLast texts n name i
last_kept places texts n name i tell is = subst (IsPlace texts n name) is (tell name)

pub kept_last : (places : BTreeMap (Bor (List ℕ)) ℕ) (texts : List (List ℕ × List ℕ)) (n : ℕ) (name : List ℕ) (i : ℕ)
    → TellPlaces places texts n
    → IsLast texts n name i → kept_of name places ≡ Some i
kept_last places texts n name i tell is = by (kept_of name places) (tell name)
  where
    by : (o : Option ℕ) → IsPlace texts n name o → o ≡ Some i
    by (Some j) other = ap (λ (m : ℕ). Some m) (one_last texts n name j i other is)
    by None none = absurd (none i (is.within) (is.named))
