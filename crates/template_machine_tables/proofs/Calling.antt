-- Calls of `changed` by the numbers of loops: what is found, and what becomes of them.
use Rattle.std.proofs.Common.{◌≡◌, ℕ, zero, suc, ◌+◌, ◌<◌, ◌≤◌, Bool, true, false, not, cond, List, [], ◌∷◌, ◌++◌, length, get_or, set, None, Some, refl, ap, arith}
use Rattle.std.specs.List.{position, position_or_len, remove}
use Rattle.std.proofs.lemmas.Grind.{common_steps}
use Rattle.template_values_model.specs.Val.{Val}
use Rattle.template_machine_meaning.specs.World.{drop_given, given_at, put_given}
use Rattle.template_machine_tables.specs.Calls.{is_for}

module _ (number : ℕ) where
  -- the place of the first call for the loop, or behind all where there is none
  abbrev place : List (ℕ × List Val) → ℕ
  place gs = position_or_len (is_for number) gs

  place_is : (gs : List (ℕ × List Val)) (i : ℕ) → position (is_for number) gs ≡ Some i → i ≡ place gs
  place_is gs i found = grind (arith, common_steps)

  pub within : (gs : List (ℕ × List Val)) (i : ℕ) → position (is_for number) gs ≡ Some i → i < length gs
  within gs i found = grind (arith, common_steps)

  behind_all : (gs : List (ℕ × List Val)) → position (is_for number) gs ≡ None → length gs ≤ place gs
  behind_all gs none = grind (arith, common_steps)

  found_from : (gs : List (ℕ × List Val)) (i : ℕ) (g : ℕ × List Val) → i ≡ place gs → i < length gs → g ≡ get_or gs i g → Some g.1 ≡ given_at number gs
  found_from [] i g e h at = absurd (omega arith)
  found_from (f ∷ gs) zero g e h at = by (is_for number f) e
    where
      by : (b : Bool) → 0 ≡ cond (not b) (1 + place gs) 0 → Some g.1 ≡ cond b (Some f.1) (given_at number gs)
      by true e = ap (λ (c : ℕ × List Val). Some c.1) at
      by false e = absurd (omega arith)
  found_from (f ∷ gs) (suc i) g e h at = by (is_for number f) (λ e. found_from gs i g e (omega arith) at) e
    where
      by : (b : Bool) → (i ≡ place gs → Some g.1 ≡ given_at number gs) → suc i ≡ cond (not b) (1 + place gs) 0 → Some g.1 ≡ cond b (Some f.1) (given_at number gs)
      by true rest e = absurd (omega arith)
      by false rest e = rest (omega arith)

  -- what was given is that of the first call
  pub found : (gs : List (ℕ × List Val)) (i : ℕ) (g : ℕ × List Val) → position (is_for number) gs ≡ Some i → g ≡ get_or gs i g → Some g.1 ≡ given_at number gs
  found gs i g is at = found_from gs i g (place_is gs i is) (within gs i is) at

  none_from : (gs : List (ℕ × List Val)) → length gs ≤ place gs → None ≡ given_at number gs
  none_from [] h = refl
  none_from (f ∷ gs) h = by (is_for number f) (none_from gs) h
    where
      by : (b : Bool) → (length gs ≤ place gs → None ≡ given_at number gs) → suc (length gs) ≤ cond (not b) (1 + place gs) 0 → None ≡ cond b (Some f.1) (given_at number gs)
      by true rest h = absurd (omega arith)
      by false rest h = rest (omega arith)

  -- nothing was given where there is none
  pub not_found : (gs : List (ℕ × List Val)) → position (is_for number) gs ≡ None → None ≡ given_at number gs
  not_found gs none = none_from gs (behind_all gs none)

  module _ (vs : List Val) where
    put_from : (gs : List (ℕ × List Val)) (i : ℕ) → i ≡ place gs → i < length gs → set gs i (number, vs) ≡ put_given number vs gs
    put_from [] i e h = absurd (omega arith)
    put_from (f ∷ gs) zero e h = by (is_for number f) e
      where
        by : (b : Bool) → 0 ≡ cond (not b) (1 + place gs) 0 → (number, vs) ∷ gs ≡ cond b ((number, vs) ∷ gs) (f ∷ put_given number vs gs)
        by true e = refl
        by false e = absurd (omega arith)
    put_from (f ∷ gs) (suc i) e h = by (is_for number f) (λ e. put_from gs i e (omega arith)) e
      where
        by : (b : Bool) → (i ≡ place gs → set gs i (number, vs) ≡ put_given number vs gs) → suc i ≡ cond (not b) (1 + place gs) 0
            → f ∷ set gs i (number, vs) ≡ cond b ((number, vs) ∷ gs) (f ∷ put_given number vs gs)
        by true rest e = absurd (omega arith)
        by false rest e = ap (λ (hs : List (ℕ × List Val)). f ∷ hs) (rest (omega arith))

    -- the first call is another one
    pub put_found : (gs : List (ℕ × List Val)) (i : ℕ) → position (is_for number) gs ≡ Some i → set gs i (number, vs) ≡ put_given number vs gs
    put_found gs i is = put_from gs i (place_is gs i is) (within gs i is)

    put_behind : (gs : List (ℕ × List Val)) → length gs ≤ place gs → gs ++ (number, vs) ∷ [] ≡ put_given number vs gs
    put_behind [] h = refl
    put_behind (f ∷ gs) h = by (is_for number f) (put_behind gs) h
      where
        by : (b : Bool) → (length gs ≤ place gs → gs ++ (number, vs) ∷ [] ≡ put_given number vs gs) → suc (length gs) ≤ cond (not b) (1 + place gs) 0
            → f ∷ (gs ++ (number, vs) ∷ []) ≡ cond b ((number, vs) ∷ gs) (f ∷ put_given number vs gs)
        by true rest h = absurd (omega arith)
        by false rest h = ap (λ (hs : List (ℕ × List Val)). f ∷ hs) (rest (omega arith))

    -- a new one stands behind the others
    pub put_new : (gs : List (ℕ × List Val)) → position (is_for number) gs ≡ None → gs ++ (number, vs) ∷ [] ≡ put_given number vs gs
    put_new gs none = put_behind gs (behind_all gs none)

  drop_from : (gs : List (ℕ × List Val)) (i : ℕ) → i ≡ place gs → i < length gs → remove gs i ≡ drop_given number gs
  drop_from [] i e h = absurd (omega arith)
  drop_from (f ∷ gs) zero e h = by (is_for number f) e
    where
      by : (b : Bool) → 0 ≡ cond (not b) (1 + place gs) 0 → gs ≡ cond b gs (f ∷ drop_given number gs)
      by true e = refl
      by false e = absurd (omega arith)
  drop_from (f ∷ gs) (suc i) e h = by (is_for number f) (λ e. drop_from gs i e (omega arith)) e
    where
      by : (b : Bool) → (i ≡ place gs → remove gs i ≡ drop_given number gs) → suc i ≡ cond (not b) (1 + place gs) 0
          → f ∷ remove gs i ≡ cond b gs (f ∷ drop_given number gs)
      by true rest e = absurd (omega arith)
      by false rest e = ap (λ (hs : List (ℕ × List Val)). f ∷ hs) (rest (omega arith))

  -- the first call is gone
  pub drop_found : (gs : List (ℕ × List Val)) (i : ℕ) → position (is_for number) gs ≡ Some i → remove gs i ≡ drop_given number gs
  drop_found gs i is = drop_from gs i (place_is gs i is) (within gs i is)

  stays_from : (gs : List (ℕ × List Val)) → length gs ≤ place gs → gs ≡ drop_given number gs
  stays_from [] h = refl
  stays_from (f ∷ gs) h = by (is_for number f) (stays_from gs) h
    where
      by : (b : Bool) → (length gs ≤ place gs → gs ≡ drop_given number gs) → suc (length gs) ≤ cond (not b) (1 + place gs) 0
          → f ∷ gs ≡ cond b gs (f ∷ drop_given number gs)
      by true rest h = absurd (omega arith)
      by false rest h = ap (λ (hs : List (ℕ × List Val)). f ∷ hs) (rest (omega arith))

  -- all stay where there is none
  pub stays : (gs : List (ℕ × List Val)) → position (is_for number) gs ≡ None → gs ≡ drop_given number gs
  stays gs none = stays_from gs (behind_all gs none)
