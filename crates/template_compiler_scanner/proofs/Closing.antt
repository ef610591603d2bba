-- The closing quote of a literal, found piece by piece.
use Rattle.std.proofs.Common.{◌≡◌, ℕ, zero, suc, ◌+◌, ◌<◌, ◌≤◌, ◌⊎◌, inl, inr, Bool, true, false, ◌==◌, ◌||◌, None, Some, List, [], ◌∷◌, length, take, drop, get_or, slice_index, refl, sym, ◌∙◌, ap, add-one, add-zero, zero-add, arith, length-drop, get_or-drop, ◌-◌}
use Rattle.std.proofs.Math.Seq.{drop-cons}
use Rattle.std.proofs.lemmas.Bool.{eqb-true, eq-eqb}
use Rattle.std.proofs.lemmas.List.{drop-drop, drop_all}
use Rattle.memchr.specs.Find.{IsFirstByte, is_byte2}
use Rattle.template_compiler_tokens.specs.Texts.{IsClose, close_here, close_behind, close_behind_escape, Unescapes, IsText, closed_text, bad_text}
use Rattle.template_values_errors.specs.declared.ErrorKind.{ErrorKind}
use Rattle.template_values_errors.specs.declared.ErrorKind.TheVariants.{OutOfMemory}
use Rattle.template_compiler_tokens.specs.Token.{TokenFault, Token, string, bad, bad_escape}
use Rattle.template_compiler_tokens.specs.Left.{kind_of}
use Rattle.template_compiler_scanner.specs.Scans.{IsRefused}
use Rattle.template_compiler_tokens.proofs.Decided.{close_none_escape, close_none_next}

module _ (q : ℕ) where
  -- neither the quote nor a `\` stands below the place
  abbrev pub IsQuiet : List ℕ → ℕ → Type 0
  IsQuiet s i = (k : ℕ) → k < i → ((get_or s k 0 ≡ q → ⊥) × (get_or s k 0 ≡ 92 → ⊥))

  quiet_tail : (b : ℕ) (s : List ℕ) (i : ℕ) → IsQuiet (b ∷ s) (suc i) → IsQuiet s i
  quiet_tail b s i quiet k h = quiet (suc k) (omega arith)

  quiet_goes_on : (s : List ℕ) (i n : ℕ) → i ≤ length s → IsQuiet s i → IsClose q (drop i s) n → IsClose q s (i + n)
  quiet_goes_on s zero n h quiet close = rw zero-add close
  quiet_goes_on [] (suc i) n h quiet close = absurd (omega arith)
  quiet_goes_on (b ∷ s) (suc i) n h quiet close =
      let here = quiet 0 (omega arith) in
      let place : suc i + n ≡ suc (i + n) = omega arith in
      rw place (close_behind here.0 here.1 (quiet_goes_on s i n (omega arith) (quiet_tail b s i quiet) close))

  quiet_fails : (s : List ℕ) (i : ℕ) → i ≤ length s → IsQuiet s i → ((n : ℕ) → IsClose q (drop i s) n → ⊥) → (n : ℕ) → IsClose q s n → ⊥
  quiet_fails s zero h quiet none = none
  quiet_fails [] (suc i) h quiet none = absurd (omega arith)
  quiet_fails (b ∷ s) (suc i) h quiet none =
      let here = quiet 0 (omega arith) in
      close_none_next here.0 here.1 (quiet_fails s i (omega arith) (quiet_tail b s i quiet) none)

  opened : (s : List ℕ) (i : ℕ) → i < length s → drop i s ≡ slice_index s i ∷ drop (i + 1) s
  opened s i h = rw add-one (drop-cons s i 0 h)

  either : (b : ℕ) → (b ≡ q) ⊎ (b ≡ 92) → is_byte2 q 92 b ≡ true
  either b (inl e) = let f : (b == q) ≡ true = eq-eqb b q e in rw f
  either b (inr e) = let f : (b == 92) ≡ true = eq-eqb b 92 e in go (b == q)
    where
      go : (x : Bool) → (x || (b == 92)) ≡ true
      go true = refl
      go false = eq-eqb b 92 e

  one_of : (b : ℕ) → is_byte2 q 92 b ≡ true → (b ≡ q → ⊥) → b ≡ 92
  one_of b e not = go (b == q) refl
    where
      go : (x : Bool) → (b == q) ≡ x → b ≡ 92
      go true f = absurd (not (eqb-true b q f))
      go false f = eqb-true b 92 (rw f at e)

  quiet_before : (s : List ℕ) (i : ℕ) → IsFirstByte (is_byte2 q 92) s (Some i) → IsQuiet s i
  quiet_before s i found k h =
      let not = found.0.before k (omega arith) h in
      (λ e. not (either (slice_index s k) (inl e)), λ e. not (either (slice_index s k) (inr e)))

  pub quote_found : (s : List ℕ) (i : ℕ) → IsFirstByte (is_byte2 q 92) s (Some i) → slice_index s i ≡ q → IsClose q s i
  quote_found s i found e =
      let within = found.0.high in
      rw add-zero at (quiet_goes_on s i 0 (omega arith) (quiet_before s i found) (rw (opened s i within) (close_here e)))

  escape_at : (s : List ℕ) (i : ℕ) → i + 1 < length s → drop i s ≡ slice_index s i ∷ slice_index s (i + 1) ∷ drop (i + 2) s
  escape_at s i h =
      let place : i + 1 + 1 ≡ i + 2 = omega arith in
      opened s i (omega arith) ∙ ap (λ r. slice_index s i ∷ r) (rw place at (opened s (i + 1) h))

  pub escape_goes_on : (s : List ℕ) (i n : ℕ) → IsFirstByte (is_byte2 q 92) s (Some i) → (slice_index s i ≡ q → ⊥) → i + 1 < length s →
      IsClose q (drop (i + 2) s) n → IsClose q s (i + 2 + n)
  escape_goes_on s i n found not h close =
      let place : i + suc (suc n) ≡ i + 2 + n = omega arith in
      rw place at
      (quiet_goes_on s i (suc (suc n)) (omega arith) (quiet_before s i found)
      (rw (escape_at s i h) (close_behind_escape not (one_of (slice_index s i) found.1 not) close)))

  pub escape_fails : (s : List ℕ) (i : ℕ) → IsFirstByte (is_byte2 q 92) s (Some i) → (slice_index s i ≡ q → ⊥) → i + 1 < length s →
      ((n : ℕ) → IsClose q (drop (i + 2) s) n → ⊥) → (n : ℕ) → IsClose q s n → ⊥
  escape_fails s i found not h none =
      quiet_fails s i (omega arith) (quiet_before s i found)
      (rw (escape_at s i h) (close_none_escape not (one_of (slice_index s i) found.1 not) none))

  last_escape : {b : ℕ} → (b ≡ q → ⊥) → b ≡ 92 → (n : ℕ) → IsClose q (b ∷ []) n → ⊥
  last_escape not e n (close_here f) = not f
  last_escape not e n (close_behind f g h) = g e

  pub end_fails : (s : List ℕ) (i : ℕ) → IsFirstByte (is_byte2 q 92) s (Some i) → (slice_index s i ≡ q → ⊥) → length s ≤ i + 1 →
      (n : ℕ) → IsClose q s n → ⊥
  end_fails s i found not h =
      let within = found.0.high in
      quiet_fails s i (omega arith) (quiet_before s i found)
      (rw (opened s i within, drop_all (i + 1) s h) (last_escape not (one_of (slice_index s i) found.1 not)))

  pub none_found : (s : List ℕ) → IsFirstByte (is_byte2 q 92) s None → (n : ℕ) → IsClose q s n → ⊥
  none_found s none =
      quiet_fails s (length s) (omega arith)
      (λ k h. (λ e. none k (omega arith) h (either (slice_index s k) (inl e)), λ e. none k (omega arith) h (either (slice_index s k) (inr e))))
      (rw (drop_all (length s) s (omega arith)) (λ n close. elim close [ ]))

  -- the quote that closes stands there
  pub close_stands : {s : List ℕ} {n : ℕ} → IsClose q s n → slice_index s n ≡ q
  close_stands (close_here e) = e
  close_stands (close_behind e f h) = close_stands h
  close_stands (close_behind_escape e f h) = close_stands h

module _ (q : ℕ) (s r : List ℕ) (from i : ℕ) (rest : r ≡ drop from s) (found : IsFirstByte (is_byte2 q 92) r (Some i))
    (goes_on : (n : ℕ) → IsClose q (drop from s) n → IsClose q s (from + n))
    (fails : ((n : ℕ) → IsClose q (drop from s) n → ⊥) → (n : ℕ) → IsClose q s n → ⊥) where
  here : IsFirstByte (is_byte2 q 92) (drop from s) (Some i)
  here = rw rest at found

  byte_here : slice_index (drop from s) i ≡ slice_index s (from + i)
  byte_here = get_or-drop from s i 0

  len_here : length (drop from s) ≡ length s - from
  len_here = length-drop from s

  pub loop_found : slice_index s (from + i) ≡ q → IsClose q s (from + i)
  loop_found e = goes_on i (quote_found q (drop from s) i here (byte_here ∙ e))

  pub loop_within : from + i < length s
  loop_within = let high = here.0.high in let len = len_here in omega arith

  pub loop_goes_on : (slice_index s (from + i) ≡ q → ⊥) → from + i + 1 < length s → (n : ℕ) → IsClose q (drop (from + i + 2) s) n → IsClose q s (from + i + 2 + n)
  loop_goes_on not h n close =
      let len = len_here in
      let place : from + (i + 2 + n) ≡ from + i + 2 + n = omega arith in
      let behind : from + (i + 2) ≡ from + i + 2 = omega arith in
      rw place at
      (goes_on (i + 2 + n)
      (escape_goes_on q (drop from s) i n here (λ e. not (sym byte_here ∙ e)) (omega arith)
      (rw (drop-drop (i + 2) from s, behind) close)))

  pub loop_fails : (slice_index s (from + i) ≡ q → ⊥) → from + i + 1 < length s → ((n : ℕ) → IsClose q (drop (from + i + 2) s) n → ⊥) →
      (n : ℕ) → IsClose q s n → ⊥
  loop_fails not h none =
      let len = len_here in
      let behind : from + (i + 2) ≡ from + i + 2 = omega arith in
      fails
      (escape_fails q (drop from s) i here (λ e. not (sym byte_here ∙ e)) (omega arith)
      (rw (drop-drop (i + 2) from s, behind) none))

  pub loop_ends : (slice_index s (from + i) ≡ q → ⊥) → length s ≤ from + i + 1 → (n : ℕ) → IsClose q s n → ⊥
  loop_ends not h =
      let len = len_here in
      fails (end_fails q (drop from s) i here (λ e. not (sym byte_here ∙ e)) (omega arith))

pub read_token : {q : ℕ} {s inside : List ℕ} {n : ℕ} {t : Token} → IsClose q s n → inside ≡ take n s →
    ((text : List ℕ) × (t ≡ string text) × Unescapes inside text) → IsText q s t (n + 2)
read_token close e (text, f, u) = rw f (closed_text close (rw e at u) refl)

pub read_refused : {q : ℕ} {s inside : List ℕ} {n : ℕ} {kind : ErrorKind} → IsClose q s n → inside ≡ take n s →
    IsRefused ((text : List ℕ) → Unescapes inside text → ⊥) kind →
    (kind ≡ OutOfMemory) ⊎ ((fault : TokenFault) × (kind ≡ kind_of fault) × IsText q s (bad fault) 0)
read_refused close e (inl memory) = inl memory
read_refused close e (inr (kind, none)) = inr (bad_escape, kind, bad_text close (rw e at none))
