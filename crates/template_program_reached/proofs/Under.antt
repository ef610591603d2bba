-- The source that stands under a name, by the place of its last template.
use Rattle.std.proofs.Common.{◌≡◌, ◌∙◌, ℕ, zero, suc, ◌+◌, ◌<◌, Bool, true, false, cond, List, [], ◌∷◌, length, drop, ◌-◌, inl, inr, Option, None, Some, refl, sym, ap, subst, arith, length-drop}
use Rattle.std.specs.Option.{option_or}
use Rattle.std.specs.Str.{bytes_eq}
use Rattle.std.proofs.lemmas.Bool.{cases_order, false_from_ne_true}
use Rattle.std.proofs.lemmas.Slice.Eq.{bytes_eq-Decides}
use Rattle.std.proofs.lemmas.List.{get_or-drop}
use Rattle.template_program_reached.specs.Places.{text_at, IsLast}
use Rattle.template_program_reached.specs.Reached.{source_under}

-- no template has the name
abbrev pub HasNone : List (List ℕ × List ℕ) → List ℕ → Type 0
HasNone texts name = (k : ℕ) → k < length texts → (text_at texts k).0 ≡ name → ⊥

pub under_none : (texts : List (List ℕ × List ℕ)) (name : List ℕ) → HasNone texts name → source_under texts name ≡ None
under_none [] name without = refl
under_none (t ∷ texts) name without =
    let later : source_under texts name ≡ None = under_none texts name (λ k h e. without (suc k) (omega arith) e) in
    let here : bytes_eq t.0 name ≡ false = false_from_ne_true (bytes_eq t.0 name)
    (λ b. without zero (omega arith) ((bytes_eq-Decides t.0 name).0 b)) in
    ap (λ (o : Option (List ℕ)). option_or o (cond (bytes_eq t.0 name) (Some t.1) None)) later
    ∙ ap (λ (b : Bool). cond b (Some t.1) None) here

-- the last template of the name has the source
pub under_last : (texts : List (List ℕ × List ℕ)) (name : List ℕ) (i : ℕ) → i < length texts → (text_at texts i).0 ≡ name
    → ((k : ℕ) → k < length texts → i < k → (text_at texts k).0 ≡ name → ⊥) → source_under texts name ≡ Some (text_at texts i).1
under_last [] name i within named last = absurd (omega arith)
under_last (t ∷ texts) name zero within named last =
    let later : source_under texts name ≡ None = under_none texts name (λ k h e. last (suc k) (omega arith) (omega arith) e) in
    ap (λ (o : Option (List ℕ)). option_or o (cond (bytes_eq t.0 name) (Some t.1) None)) later
    ∙ ap (λ (b : Bool). cond b (Some t.1) None) ((bytes_eq-Decides t.0 name).1 named)
under_last (t ∷ texts) name (suc i) within named last =
    let later : source_under texts name ≡ Some (text_at texts i).1 =
    under_last texts name i (omega arith) named (λ k h j e. last (suc k) (omega arith) (omega arith) e) in
    ap (λ (o : Option (List ℕ)). option_or o (cond (bytes_eq t.0 name) (Some t.1) None)) later

pub under_place : (texts : List (List ℕ × List ℕ)) (n : ℕ) (name : List ℕ) (i : ℕ) → n ≡ length texts → IsLast texts n name i
    → source_under texts name ≡ Some (text_at texts i).1
under_place texts n name i long is =
    under_last texts name i (omega (arith, is.within)) (is.named) (λ k h j e. is.last k (omega arith) j e)

-- where no source stands under a name, no template has it
none_here : (t : List ℕ × List ℕ) (name : List ℕ) (o : Option (List ℕ)) → option_or o (cond (bytes_eq t.0 name) (Some t.1) None) ≡ None
    → (o ≡ None) × (t.0 ≡ name → ⊥)
none_here t name (Some source) none = absurd (cc)
none_here t name None none = (
  refl,
  λ is.
      let same : bytes_eq t.0 name ≡ true = (bytes_eq-Decides t.0 name).1 is in
      let some : cond (bytes_eq t.0 name) (Some t.1) None ≡ Some t.1 = ap (λ (b : Bool). cond b (Some t.1) None) same in
      cc,
)

none_under : (texts : List (List ℕ × List ℕ)) (name : List ℕ) → source_under texts name ≡ None → HasNone texts name
none_under [] name e k h named = absurd (omega arith)
none_under (t ∷ texts) name e zero h named = (none_here t name (source_under texts name) e).1 named
none_under (t ∷ texts) name e (suc k) h named = none_under texts name (none_here t name (source_under texts name) e).0 k (omega arith) named

-- no later template has the name of the one at a place, if and only if it is the last of its name
pub last_from_none : (texts : List (List ℕ × List ℕ)) (n : ℕ) (name : List ℕ) (i : ℕ) → n ≡ length texts → i < n
    → (text_at texts i).0 ≡ name → source_under (drop (i + 1) texts) name ≡ None → IsLast texts n name i
last_from_none texts n name i long within named none = record {
  within = within;
  named = named;
  last = λ k h j e.
      let m : k ≡ i + 1 + (k - (i + 1)) = omega arith in
      none_under (drop (i + 1) texts) name none (k - (i + 1)) (omega (arith, length-drop (i + 1) texts))
      (ap (λ (t : List ℕ × List ℕ). t.0) (get_or-drop (i + 1) texts (k - (i + 1)) ([], []))
      ∙ subst (λ (q : ℕ). (text_at texts q).0 ≡ name) m e);
}

pub none_from_last : (texts : List (List ℕ × List ℕ)) (n : ℕ) (name : List ℕ) (i : ℕ) → n ≡ length texts → IsLast texts n name i
    → source_under (drop (i + 1) texts) name ≡ None
none_from_last texts n name i long is =
    under_none (drop (i + 1) texts) name (λ k h e. is.last (i + 1 + k) (omega (arith, length-drop (i + 1) texts)) (omega arith)
    (ap (λ (t : List ℕ × List ℕ). t.0) (sym (get_or-drop (i + 1) texts k ([], []))) ∙ e))

-- two last places of a name are one
pub one_last : (texts : List (List ℕ × List ℕ)) (n : ℕ) (name : List ℕ) (i j : ℕ) → IsLast texts n name i → IsLast texts n name j → i ≡ j
one_last texts n name i j a b =
    elim (cases_order i j) [
      | inl e ↦ e
      | inr (inl lt) ↦ absurd (a.last j (b.within) lt (b.named))
      | inr (inr lt) ↦ absurd
          (b.last i (a.within) lt (a.named))
    ]
