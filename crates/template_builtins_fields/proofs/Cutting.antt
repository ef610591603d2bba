-- Texts cut at a byte.
use Rattle.std.proofs.Common.{◌≡◌, ℕ, ◌<◌, ◌+◌, List, [], ◌∷◌, length, true, false, eqb, ⊎_elim, refl, sym, ap, arith, Option, None, Some, option_map, MatchOption, lit<}
use Rattle.std.specs.Borrow.{Bor}
use Rattle.std.specs.List.{position_or_len}
use Rattle.std.proofs.lemmas.Bool.Decides.{nat_tests, eqb_tells}
use Rattle.std.proofs.lemmas.List.{take_all, drop_all}
use Rattle.std.proofs.lemmas.Str.Pattern.{IsSplitOnceResult, split_once_first}
use Rattle.template_builtins_fields.specs.Formats.{behind_second, both_seen, cut, layout_in_field, name_in}

equal_true : (m n : ℕ) → m ≡ n → eqb m n ≡ true
equal_true m n is = grind (arith, nat_tests)

less_false : (m n : ℕ) → m < n → eqb m n ≡ false
less_false m n less = grind (arith, nat_tests)

pub cut_is : (c : ℕ) (s : List ℕ) (r : Option (Bor (List ℕ) × Bor (List ℕ))) → IsSplitOnceResult c s r → c < 128
    → option_map both_seen r ≡ cut c s
unfolding cut
cut_is c s None finds small =
    rw (equal_true (position_or_len (λ b. eqb b c) s) (length s) (split_once_first c s None finds small))
cut_is c s (Some (a, b)) cuts small =
    let parts = split_once_first c s (Some (a, b)) cuts small in
    rw (less_false (position_or_len (λ b. eqb b c) s) (length s) parts.0, parts.1, parts.2)

pub name_cut : (s : List ℕ) (a b : Bor (List ℕ)) → IsSplitOnceResult 58 s (Some (a, b)) → a.now ≡ name_in s
unfolding name_in
name_cut s a b cuts = (split_once_first 58 s (Some (a, b)) cuts (lit< tt)).1

pub layout_cut : (s : List ℕ) (a b : Bor (List ℕ)) → IsSplitOnceResult 58 s (Some (a, b)) → b.now ≡ layout_in_field s
unfolding layout_in_field
layout_cut s a b cuts = (split_once_first 58 s (Some (a, b)) cuts (lit< tt)).2

pub name_all : (s : List ℕ) → IsSplitOnceResult 58 s None → s ≡ name_in s
unfolding name_in
name_all s finds =
    let none = split_once_first 58 s None finds (lit< tt) in
    sym (take_all (position_or_len (λ b. eqb b 58) s) s (omega (arith, none)))

pub layout_none : (s : List ℕ) → IsSplitOnceResult 58 s None → [] ≡ layout_in_field s
unfolding layout_in_field
layout_none s finds =
    let none = split_once_first 58 s None finds (lit< tt) in
    sym (drop_all (position_or_len (λ b. eqb b 58) s + 1) s (omega (arith, none)))

pub second_is : (s : List ℕ) (r : Option (Bor (List ℕ))) → MatchOption r ((rest : List ℕ) → ¬ (s ≡ 123 ∷ rest)) (λ x. s ≡ 123 ∷ x.now)
    → option_map (λ x. x.now) r ≡ behind_second s
second_is s (Some x) is = sym (ap behind_second is)
second_is [] None lacks = refl
second_is (b ∷ s) None lacks =
    ⊎_elim
    (λ t. absurd (lacks s (ap (λ (z : ℕ). z ∷ s) t.1)))
    (λ t. rw t.0)
    (eqb_tells b 123)
