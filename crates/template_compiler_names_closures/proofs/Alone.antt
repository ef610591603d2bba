-- Walks that tell names alone.
use Rattle.std.proofs.Common.{Global, Result, Ok, Err, ◌≡◌, ℕ, Bool, true, false, not, ◌&&◌, ◌||◌, List, String, codes, IsTrue, inl, inr, ◌↔◌, refl, sym, ap, subst, ◌∙◌}
use Rattle.std.specs.Prelude.{IfOk}
use Rattle.std.specs.BTreeSet.{BTreeSet, contains_text}
use Rattle.template_compiler_names.specs.Names.{IsToldFor, Places, anywhere, is_stored_everywhere}
use Rattle.template_compiler_names.specs.declared.state.Names.{Names}
use Rattle.template_compiler_names.specs.Among.{Among, just}
use Rattle.template_compiler_names.specs.Goes.{Goes, knows, no_place, tells}
use Rattle.template_compiler_names.proofs.Laws.{and_false, goes_then, turned}

-- at the beginning nothing is told, and what is stored everywhere is known
untold : (b : Bool) → (IsTrue b → ⊥) → b ≡ false
untold true h = absurd (h refl)
untold false h = refl

none_told : {k : Among} (a b : Names) → ((q : List ℕ) → tells a q ≡ false) → Goes no_place k a b → (q : List ℕ) → tells b q ≡ false
none_told a b fresh goes q =
    untold (tells b q) (λ h. elim ((goes.found q).0 h) [
      | inl o ↦ let none : false ≡ true = sym (fresh q) ∙ o in cc
      | inr f ↦ let none : false ≡ true = sym (and_false (not (knows a f.0.name))) ∙ f.2 in cc
    ])

pub begun : (a b c : Names) → ((q : List ℕ) → tells a q ≡ false) → ((q : List ℕ) → knows a q ≡ false) → Goes no_place (just (codes "self")) a b →
    Goes no_place (just (codes "super")) b c → ((q : List ℕ) → tells c q ≡ false) × ((q : List ℕ) → knows c q ≡ is_stored_everywhere q)
begun a b c fresh unknown self super =
    let both = goes_then a b c self super in (
      none_told b c (none_told a b fresh self) super,
      λ q.
          both.knows q ∙ ap (λ k. k || (just (codes "self") q || just (codes "super") q)) (unknown q) ∙
          ap (λ s. s || just (codes "super") q) (turned (codes "self") q) ∙ ap (λ s. just q (codes "self") || s) (turned (codes "super") q),
    )

same_truth : (a b : Bool) → IsTrue a ↔ IsTrue b → a ≡ b
same_truth true b h = sym (h.0 refl)
same_truth false true h = h.1 refl
same_truth false false h = refl

-- and a walk that begins so tells the names that it uses
pub told_alone : {u : Places → Bool} {k : Among} (a d : Names) → a.nested ≡ false → ((q : List ℕ) → tells a q ≡ false) →
    ((q : List ℕ) → knows a q ≡ is_stored_everywhere q) → Goes u k a d → (q : List ℕ) → tells d q ≡ (not (is_stored_everywhere q) && u (anywhere q))
told_alone {u} a d alone fresh known goes q =
    let name : knows a q ≡ is_stored_everywhere q = known q in
    same_truth (tells d q) (not (is_stored_everywhere q) && u (anywhere q)) (
      λ h. elim ((goes.found q).0 h) [
        | inl o ↦ let none : false ≡ true = sym (fresh q) ∙ o in cc
        | inr f ↦
            let place = subst (λ nested. IsToldFor nested q f.0) alone f.1 in
            subst (λ (p : Places). IsTrue (not (is_stored_everywhere p.name) && u p)) place
            (ap (λ s. not s && u f.0) (sym (known f.0.name)) ∙ f.2)
      ],
      λ h. (goes.found q).1 (inr (
        anywhere q,
        subst (λ nested. IsToldFor nested q (anywhere q)) (sym alone) refl,
        ap (λ s. not s && u (anywhere q)) name ∙ h,
      )),
    )

pub in_set : {E : Type 0} (among : Among) (d : Names) (r : Result (BTreeSet (String Global)) E) → ((q : List ℕ) → tells d q ≡ among q) →
    IfOk r (λ names. (q : List ℕ) → contains_text names q ≡ tells d q) → IfOk r (λ names. (q : List ℕ) → contains_text names q ≡ among q)
in_set among d (Ok names) whole same = λ q. same q ∙ whole q
in_set among d (Err error) whole same = tt
