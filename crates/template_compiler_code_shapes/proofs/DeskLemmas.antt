-- Slots of notes.
use Rattle.std.proofs.Common.{◌≡◌, ℕ, zero, suc, ◌+◌, ◌<◌, ◌⊎◌, inl, inr, List, [], ◌∷◌, ◌++◌, length, reverse, Option, None, Some, slice_set, get_or, refl, sym, ap, ◌∙◌, arith}
use Rattle.std.specs.Prelude.{option_map, option_and_then}
use Rattle.std.proofs.lemmas.Option.{slice_get-get_or}
use Rattle.std.proofs.lemmas.List.{reverse-append}
use Rattle.template_compiler_code_shapes.specs.Shapes.{Shape}
use Rattle.template_compiler_code_shapes.specs.Outlines.{shape_of}
use Rattle.template_compiler_code_shapes.specs.Passes.{Noted}
use Rattle.template_compiler_code_shapes.specs.Desks.{slot_in, blanks_in}
use Rattle.template_compiler_code_shapes.specs.declared.outline.Outline.{Outline}

some_is : {A : Type 0} (x y : A) → Some x ≡ Some y → x ≡ y
some_is x y e = cc

pub set_has : (slots : List (Option Outline)) (place : ℕ) (o : Outline) → place < length slots → slot_in (slice_set slots place (Some o)) place ≡ Some (shape_of o)
set_has [] place o less = absurd (omega arith)
set_has (x ∷ slots) zero o less = refl
set_has (x ∷ slots) (suc place) o less = set_has slots place o (omega arith)

pub set_only : (slots : List (Option Outline)) (place : ℕ) (o : Outline) (q : ℕ) (s : Shape) → slot_in (slice_set slots place (Some o)) q ≡ Some s → (slot_in slots q ≡ Some s) ⊎ ((q ≡ place) × (s ≡ shape_of o))
set_only [] place o q s h = inl h
set_only (x ∷ slots) zero o zero s h = inr (refl, sym (some_is (shape_of o) s h))
set_only (x ∷ slots) zero o (suc q) s h = inl h
set_only (x ∷ slots) (suc place) o zero s h = inl h
set_only (x ∷ slots) (suc place) o (suc q) s h = elim (set_only slots place o q s h) [ inl old ↦ inl old | inr new ↦ inr (ap suc new.0, new.1) ]

pub set_keeps : (slots : List (Option Outline)) (place : ℕ) (o : Outline) → slot_in slots place ≡ None → (q : ℕ) (s : Shape) → slot_in slots q ≡ Some s → slot_in (slice_set slots place (Some o)) q ≡ Some s
set_keeps [] place o none q s h = h
set_keeps (x ∷ slots) zero o none zero s h = absurd cc
set_keeps (x ∷ slots) zero o none (suc q) s h = h
set_keeps (x ∷ slots) (suc place) o none zero s h = h
set_keeps (x ∷ slots) (suc place) o none (suc q) s h = set_keeps slots place o none q s h

pub set_noted : (slots : List (Option Outline)) (place : ℕ) (o : Outline) → place < length slots → slot_in slots place ≡ None → Noted (slot_in slots) (slot_in (slice_set slots place (Some o))) place (shape_of o)
set_noted slots place o less none = record { has = set_has slots place o less; keeps = set_keeps slots place o none; only = set_only slots place o }

pub set_blanks : (slots : List (Option Outline)) (place : ℕ) (o : Outline) → place < length slots → slot_in slots place ≡ None → blanks_in slots ≡ suc (blanks_in (slice_set slots place (Some o)))
set_blanks [] place o less none = absurd (omega arith)
set_blanks (None ∷ slots) zero o less none = refl
set_blanks (Some x ∷ slots) zero o less none = absurd cc
set_blanks (None ∷ slots) (suc place) o less none = ap suc (set_blanks slots place o (omega arith) none)
set_blanks (Some x ∷ slots) (suc place) o less none = set_blanks slots place o (omega arith) none

pub slot_is : (slots : List (Option Outline)) (place : ℕ) (o : Option Outline) → place < length slots → o ≡ get_or slots place o → slot_in slots place ≡ option_map shape_of o
slot_is slots place o less e = ap (option_and_then (option_map shape_of)) (slice_get-get_or slots place o less ∙ ap Some (sym e))

pub slot_none : (slots : List (Option Outline)) (place : ℕ) (o : Option Outline) → place < length slots → o ≡ get_or slots place o → ((x : Outline) → o ≡ Some x → ⊥) → slot_in slots place ≡ None
slot_none slots place None less e none = slot_is slots place None less e
slot_none slots place (Some x) less e none = absurd (none x refl)

pub slot_some : (slots : List (Option Outline)) (place : ℕ) (o : Option Outline) (x : Outline) → place < length slots → o ≡ get_or slots place o → o ≡ Some x → slot_in slots place ≡ Some (shape_of x)
slot_some slots place o x less e is = slot_is slots place o less e ∙ ap (option_map shape_of) is

pub one_more : (xs ys : List ℕ) (x : ℕ) → ys ≡ xs ++ x ∷ [] → reverse ys ≡ x ∷ reverse xs
one_more xs ys x e = ap reverse e ∙ reverse-append xs (x ∷ [])

pub one_longer : (xs ys : List ℕ) (x : ℕ) → ys ≡ xs ++ x ∷ [] → length ys ≡ suc (length xs)
one_longer xs ys x e = ap length e ∙ longer xs
  where
    longer : (xs : List ℕ) → length (xs ++ x ∷ []) ≡ suc (length xs)
    longer [] = refl
    longer (y ∷ xs) = ap suc (longer xs)

pub slot_more : (xs ys : List (Option Outline)) (q : ℕ) → ys ≡ xs ++ None ∷ [] → slot_in ys q ≡ slot_in xs q
slot_more xs ys q e = ap (λ (zs : List (Option Outline)). slot_in zs q) e ∙ more xs q
  where
    more : (xs : List (Option Outline)) (q : ℕ) → slot_in (xs ++ None ∷ []) q ≡ slot_in xs q
    more [] zero = refl
    more [] (suc q) = refl
    more (x ∷ xs) zero = refl
    more (x ∷ xs) (suc q) = more xs q

pub slots_longer : (xs ys : List (Option Outline)) (x : Option Outline) → ys ≡ xs ++ x ∷ [] → length ys ≡ length xs + 1
slots_longer xs ys x e = ap length e ∙ longer xs
  where
    longer : (xs : List (Option Outline)) → length (xs ++ x ∷ []) ≡ length xs + 1
    longer [] = refl
    longer (y ∷ xs) = let h : length (xs ++ x ∷ []) ≡ length xs + 1 = longer xs in omega arith
