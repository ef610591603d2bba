-- Of each text it is decided whether it begins with an escape, closes, and what it stands for.
use Rattle.std.proofs.Common.{◌≡◌, ℕ, zero, suc, ◌+◌, ◌-◌, ◌*◌, ◌≤◌, ◌⊎◌, inl, inr, Bool, true, false, ◌==◌, List, [], ◌∷◌, ◌++◌, length, drop, slice_index, Option, None, Some, refl, sym, ◌∙◌, ap, subst, arith, length-drop}
use Rattle.std.specs.Prelude.{encode_utf8}
use Rattle.std.specs.Char.{digit_value}
use Rattle.std.proofs.lemmas.Bool.{cases_lt, eqb-true, eqb-false, false≢true}
use Rattle.template_compiler_tokens.specs.Numbers.{is_digit}
use Rattle.template_compiler_tokens.specs.Texts.{IsClose, close_here, close_behind, close_behind_escape, named_escape, HasByte, HasUnit, IsHighSurrogate, IsLowSurrogate, IsEscape, named, byte, unit, pair, Unescapes, unescapes_end, unescapes_byte, unescapes_escape}
use Rattle.template_compiler_tokens.proofs.Texts.{same_unit, one_escape}

pub decide_byte : (s : List ℕ) (i : ℕ) → ((n : ℕ) × HasByte s i n) ⊎ ((n : ℕ) → HasByte s i n → ⊥)
decide_byte s i = go (is_digit 16 (slice_index s i)) (is_digit 16 (slice_index s (i + 1))) refl refl
  where
    go : (b c : Bool) → is_digit 16 (slice_index s i) ≡ b → is_digit 16 (slice_index s (i + 1)) ≡ c →
        ((n : ℕ) × HasByte s i n) ⊎ ((n : ℕ) → HasByte s i n → ⊥)
    go true true e f = inl (16 * digit_value (slice_index s i) + digit_value (slice_index s (i + 1)), record { high = e; low = f; value = refl })
    go false c e f = inr (λ n h. false≢true (sym e ∙ h.high))
    go true false e f = inr (λ n h. false≢true (sym f ∙ h.low))

pub decide_unit : (s : List ℕ) (i : ℕ) → ((n : ℕ) × HasUnit s i n) ⊎ ((n : ℕ) → HasUnit s i n → ⊥)
decide_unit s i = go (decide_byte s i) (decide_byte s (i + 2))
  where
    go : ((n : ℕ) × HasByte s i n) ⊎ ((n : ℕ) → HasByte s i n → ⊥) → ((n : ℕ) × HasByte s (i + 2) n) ⊎ ((n : ℕ) → HasByte s (i + 2) n → ⊥) →
        ((n : ℕ) × HasUnit s i n) ⊎ ((n : ℕ) → HasUnit s i n → ⊥)
    go (inl (n, h)) (inl (m, k)) = inl (256 * n + m, record { high = n; low = m; high_byte = h; low_byte = k; value = refl })
    go (inr none) d = inr (λ n h. none h.high h.high_byte)
    go (inl h) (inr none) = inr (λ n k. none k.low k.low_byte)

-- no escape stands there, if none of the four does
pub escape_none : (s : List ℕ) →
    ((c : ℕ) → named_escape (slice_index s 0) ≡ Some c → ⊥) →
    (slice_index s 0 ≡ 120 → (c : ℕ) → HasByte s 1 c → ⊥) →
    (slice_index s 0 ≡ 117 → (c : ℕ) → HasUnit s 1 c → (IsHighSurrogate c → ⊥) → (IsLowSurrogate c → ⊥) → ⊥) →
    (slice_index s 0 ≡ 117 → (high low : ℕ) → HasUnit s 1 high → IsHighSurrogate high → slice_index s 5 ≡ 92 → slice_index s 6 ≡ 117 → HasUnit s 7 low → IsLowSurrogate low → ⊥) →
    (c n : ℕ) → IsEscape s c n → ⊥
escape_none s a b u p c n (named e) = a c e
escape_none s a b u p c n (byte e h) = b e c h
escape_none s a b u p c n (unit e h x y) = u e c h x y
escape_none s a b u p c n (pair {high = high} {low = low} e h x f g k y z) = p e high low h x f g k y

decide_high : (n : ℕ) → IsHighSurrogate n ⊎ (IsHighSurrogate n → ⊥)
decide_high n = elim (cases_lt n 55296) [
  | inl below ↦ inr (λ h. absurd (omega (arith, h.0)))
  | inr above ↦ elim (cases_lt n 56320) [ inl h ↦ inl (above, h) | inr h ↦ inr (λ k. absurd (omega (arith, k.1))) ]
]

decide_low : (n : ℕ) → IsLowSurrogate n ⊎ (IsLowSurrogate n → ⊥)
decide_low n = elim (cases_lt n 56320) [
  | inl below ↦ inr (λ h. absurd (omega (arith, h.0)))
  | inr above ↦ elim (cases_lt n 57344) [ inl h ↦ inl (above, h) | inr h ↦ inr (λ k. absurd (omega (arith, k.1))) ]
]

not_both : (n : ℕ) → IsHighSurrogate n → IsLowSurrogate n → ⊥
not_both n h k = absurd (omega (arith, h.1, k.0))

decided_unit : (n m : ℕ) (s : List ℕ) → HasUnit s 1 n → HasUnit s 1 m → n ≡ m
decided_unit n m s h k = same_unit h k

decide_pair : (s : List ℕ) (high : ℕ) → slice_index s 0 ≡ 117 → HasUnit s 1 high → IsHighSurrogate high →
    ((c : ℕ) × (n : ℕ) × IsEscape s c n) ⊎ ((low : ℕ) → slice_index s 5 ≡ 92 → slice_index s 6 ≡ 117 → HasUnit s 7 low → IsLowSurrogate low → ⊥)
decide_pair s high u h x = go (slice_index s 5 == 92) (slice_index s 6 == 117) (decide_unit s 7) refl refl
  where
    low_go : (low : ℕ) → slice_index s 5 ≡ 92 → slice_index s 6 ≡ 117 → HasUnit s 7 low → IsLowSurrogate low ⊎ (IsLowSurrogate low → ⊥) →
        ((c : ℕ) × (n : ℕ) × IsEscape s c n) ⊎ ((low : ℕ) → slice_index s 5 ≡ 92 → slice_index s 6 ≡ 117 → HasUnit s 7 low → IsLowSurrogate low → ⊥)
    low_go low e f k (inl y) = inl (65536 + 1024 * (high - 55296) + (low - 56320), 11, pair u h x e f k y refl)
    low_go low e f k (inr not) = inr (λ l a b k' y. not (subst (λ v. IsLowSurrogate v) (same_unit k' k) y))

    go : (b c : Bool) (d : ((n : ℕ) × HasUnit s 7 n) ⊎ ((n : ℕ) → HasUnit s 7 n → ⊥)) → (slice_index s 5 == 92) ≡ b → (slice_index s 6 == 117) ≡ c →
        ((c : ℕ) × (n : ℕ) × IsEscape s c n) ⊎ ((low : ℕ) → slice_index s 5 ≡ 92 → slice_index s 6 ≡ 117 → HasUnit s 7 low → IsLowSurrogate low → ⊥)
    go true true (inl (low, k)) e f = low_go low (eqb-true (slice_index s 5) 92 e) (eqb-true (slice_index s 6) 117 f) k (decide_low low)
    go b c (inr not) e f = inr (λ low a b k y. not low k)
    go false c d e f = inr (λ low a b k y. eqb-false (slice_index s 5) 92 e a)
    go true false d e f = inr (λ low a b k y. eqb-false (slice_index s 6) 117 f b)

-- an escape stands there or none does
abbrev pub Decides : List ℕ → Type 0
Decides s = ((c : ℕ) × (n : ℕ) × IsEscape s c n) ⊎ ((c n : ℕ) → IsEscape s c n → ⊥)

unit_or_pair : (s : List ℕ) → slice_index s 0 ≡ 117 → ((c : ℕ) → named_escape (slice_index s 0) ≡ Some c → ⊥) → Decides s
unit_or_pair s u not_named = go (decide_unit s 1)
  where
    no_byte : slice_index s 0 ≡ 120 → (c : ℕ) → HasByte s 1 c → ⊥
    no_byte e c h = absurd (omega arith)

    by_low : (n : ℕ) → HasUnit s 1 n → (IsHighSurrogate n → ⊥) → IsLowSurrogate n ⊎ (IsLowSurrogate n → ⊥) → Decides s
    by_low n h not_high (inr not_low) = inl (n, 5, unit u h not_high not_low)
    by_low n h not_high (inl low) =
        inr
        (escape_none s not_named no_byte
        (λ e c k a b. b (subst (λ v. IsLowSurrogate v) (same_unit h k) low))
        (λ e high l k x. absurd (not_high (subst (λ v. IsHighSurrogate v) (same_unit k h) x))))

    by_pair : (n : ℕ) → HasUnit s 1 n → IsHighSurrogate n →
        ((c : ℕ) × (n : ℕ) × IsEscape s c n) ⊎ ((low : ℕ) → slice_index s 5 ≡ 92 → slice_index s 6 ≡ 117 → HasUnit s 7 low → IsLowSurrogate low → ⊥) → Decides s
    by_pair n h high (inl found) = inl found
    by_pair n h high (inr not) =
        inr
        (escape_none s not_named no_byte
        (λ e c k a b. a (subst (λ v. IsHighSurrogate v) (same_unit h k) high))
        (λ e hi low k x f g l y. not low f g l y))

    by_high : (n : ℕ) → HasUnit s 1 n → IsHighSurrogate n ⊎ (IsHighSurrogate n → ⊥) → Decides s
    by_high n h (inl high) = by_pair n h high (decide_pair s n u h high)
    by_high n h (inr not) = by_low n h not (decide_low n)

    go : ((n : ℕ) × HasUnit s 1 n) ⊎ ((n : ℕ) → HasUnit s 1 n → ⊥) → Decides s
    go (inl (n, h)) = by_high n h (decide_high n)
    go (inr not) = inr (escape_none s not_named no_byte (λ e c k a b. not c k) (λ e hi low k x f g l y. not hi k))

pub decide_escape : (s : List ℕ) → Decides s
decide_escape s = by_name (named_escape (slice_index s 0)) refl
  where
    by_byte : slice_index s 0 ≡ 120 → ((c : ℕ) → named_escape (slice_index s 0) ≡ Some c → ⊥) → ((n : ℕ) × HasByte s 1 n) ⊎ ((n : ℕ) → HasByte s 1 n → ⊥) → Decides s
    by_byte e not_named (inl (n, h)) = inl (n, 3, byte e h)
    by_byte e not_named (inr not) =
        inr (escape_none s not_named (λ f c h. not c h) (λ f c h a b. absurd (omega arith)) (λ f hi low h a b c d y. absurd (omega arith)))

    by_letter : (b c : Bool) → (slice_index s 0 == 120) ≡ b → (slice_index s 0 == 117) ≡ c → ((c : ℕ) → named_escape (slice_index s 0) ≡ Some c → ⊥) → Decides s
    by_letter true c e f not_named = by_byte (eqb-true (slice_index s 0) 120 e) not_named (decide_byte s 1)
    by_letter false true e f not_named = unit_or_pair s (eqb-true (slice_index s 0) 117 f) not_named
    by_letter false false e f not_named =
        let not_x = eqb-false (slice_index s 0) 120 e in
        let not_u = eqb-false (slice_index s 0) 117 f in
        inr (escape_none s not_named (λ g c h. not_x g) (λ g c h a b. not_u g) (λ g hi low h a b c d y. not_u g))

    by_name : (o : Option ℕ) → named_escape (slice_index s 0) ≡ o → Decides s
    by_name (Some c) e = inl (c, 1, named e)
    by_name None e = by_letter (slice_index s 0 == 120) (slice_index s 0 == 117) refl refl (λ c f. let g = sym e ∙ f in cc)

close_alone : {q b : ℕ} → (b ≡ q → ⊥) → (n : ℕ) → IsClose q (b ∷ []) n → ⊥
close_alone e n (close_here f) = e f
close_alone e n (close_behind f g h) = elim h [ ]

pub close_none_escape : {q b c : ℕ} {s : List ℕ} → (b ≡ q → ⊥) → b ≡ 92 → ((n : ℕ) → IsClose q s n → ⊥) → (n : ℕ) → IsClose q (b ∷ c ∷ s) n → ⊥
close_none_escape e f none n (close_here g) = e g
close_none_escape e f none n (close_behind g i h) = i f
close_none_escape e f none n (close_behind_escape {n = m} g i h) = none m h

pub close_none_next : {q b : ℕ} {s : List ℕ} → (b ≡ q → ⊥) → (b ≡ 92 → ⊥) → ((n : ℕ) → IsClose q s n → ⊥) → (n : ℕ) → IsClose q (b ∷ s) n → ⊥
close_none_next e f none n (close_here g) = e g
close_none_next e f none n (close_behind {n = m} g i h) = none m h
close_none_next e f none n (close_behind_escape g i h) = f i

pub text_none_here : {b : ℕ} {s : List ℕ} → b ≡ 92 → ((c n : ℕ) → IsEscape s c n → ⊥) → (t : List ℕ) → Unescapes (b ∷ s) t → ⊥
text_none_here e none t (unescapes_byte f h) = f e
text_none_here e none t (unescapes_escape {c = c} {n = n} f h g k l) = none c n h

pub text_none_next : {b : ℕ} {s : List ℕ} → (b ≡ 92 → ⊥) → ((t : List ℕ) → Unescapes s t → ⊥) → (t : List ℕ) → Unescapes (b ∷ s) t → ⊥
text_none_next e none t (unescapes_byte {text = u} f h) = none u h
text_none_next e none t (unescapes_escape f h g k l) = e f

pub text_none_behind : {b c n : ℕ} {s : List ℕ} → b ≡ 92 → IsEscape s c n → ((t : List ℕ) → Unescapes (drop n s) t → ⊥) → (t : List ℕ) → Unescapes (b ∷ s) t → ⊥
text_none_behind e esc none t (unescapes_byte f h) = f e
text_none_behind {n = n} {s = s} e esc none t (unescapes_escape {text = u} f h g k l) =
    none u (subst (λ r. Unescapes r u) (g ∙ ap (λ m. drop m s) (sym (one_escape s esc h).1)) k)

pub decide_close : (q : ℕ) (s : List ℕ) → ((n : ℕ) × IsClose q s n) ⊎ ((n : ℕ) → IsClose q s n → ⊥)
decide_close q [] = inr (λ n h. elim h [ ])
decide_close q (b ∷ []) = go (b == q) refl
  where
    go : (x : Bool) → (b == q) ≡ x → ((n : ℕ) × IsClose q (b ∷ []) n) ⊎ ((n : ℕ) → IsClose q (b ∷ []) n → ⊥)
    go true e = inl (0, close_here (eqb-true b q e))
    go false e = inr (close_alone (eqb-false b q e))
decide_close q (b ∷ c ∷ s) = go (b == q) (b == 92) refl refl (decide_close q (c ∷ s)) (decide_close q s)
  where
    go : (x y : Bool) → (b == q) ≡ x → (b == 92) ≡ y →
        ((n : ℕ) × IsClose q (c ∷ s) n) ⊎ ((n : ℕ) → IsClose q (c ∷ s) n → ⊥) →
        ((n : ℕ) × IsClose q s n) ⊎ ((n : ℕ) → IsClose q s n → ⊥) →
        ((n : ℕ) × IsClose q (b ∷ c ∷ s) n) ⊎ ((n : ℕ) → IsClose q (b ∷ c ∷ s) n → ⊥)
    go true y e f next behind = inl (0, close_here (eqb-true b q e))
    go false true e f next (inl (n, h)) = inl (suc (suc n), close_behind_escape (eqb-false b q e) (eqb-true b 92 f) h)
    go false true e f next (inr none) = inr (close_none_escape (eqb-false b q e) (eqb-true b 92 f) none)
    go false false e f (inl (n, h)) behind = inl (suc n, close_behind (eqb-false b q e) (eqb-false b 92 f) h)
    go false false e f (inr none) behind = inr (close_none_next (eqb-false b q e) (eqb-false b 92 f) none)

-- what the text stands for, or that it stands for none
abbrev pub DecidesText : List ℕ → Type 0
DecidesText s = ((t : List ℕ) × Unescapes s t) ⊎ ((t : List ℕ) → Unescapes s t → ⊥)

pub decide_text : (k : ℕ) (s : List ℕ) → length s ≤ k → DecidesText s
decide_text k [] h = inl ([], unescapes_end)
decide_text zero (b ∷ s) h = absurd (omega arith)
decide_text (suc k) (b ∷ s) h = by_byte (λ r p. decide_text k r p) (b == 92) refl
  where
    by_rest : (c n : ℕ) → b ≡ 92 → IsEscape s c n → DecidesText (drop n s) → DecidesText (b ∷ s)
    by_rest c n e esc (inl (t, u)) = inl (encode_utf8 c ++ t, unescapes_escape e esc refl u refl)
    by_rest c n e esc (inr none) = inr (text_none_behind e esc none)

    by_escape : ((r : List ℕ) → length r ≤ k → DecidesText r) → b ≡ 92 → Decides s → DecidesText (b ∷ s)
    by_escape go e (inl (c, n, esc)) = by_rest c n e esc (go (drop n s) (simp length-drop (omega arith)))
    by_escape go e (inr none) = inr (text_none_here e none)

    by_next : (b ≡ 92 → ⊥) → DecidesText s → DecidesText (b ∷ s)
    by_next e (inl (t, u)) = inl (b ∷ t, unescapes_byte e u)
    by_next e (inr none) = inr (text_none_next e none)

    by_byte : ((r : List ℕ) → length r ≤ k → DecidesText r) → (x : Bool) → (b == 92) ≡ x → DecidesText (b ∷ s)
    by_byte go true e = by_escape go (eqb-true b 92 e) (decide_escape s)
    by_byte go false e = by_next (eqb-false b 92 e) (go s (omega arith))
