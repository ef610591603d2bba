-- A token ends behind its place, within the text, in an ASCII byte.
use Rattle.std.proofs.Common.{◌≡◌, ℕ, zero, suc, ◌+◌, ◌-◌, ◌^◌, ◌<◌, ◌≤◌, ◌⊎◌, inl, inr, Bool, true, false, ◌==◌, ◌||◌, ◌&&◌, if◌then◌else◌, Option, None, Some, List, [], ◌∷◌, length, drop, get_or, slice_index, refl, ◌∙◌, subst, arith, get_or-drop, length-drop}
use Rattle.std.specs.Prelude.{take_while, nat_lt}
use Rattle.std.specs.Char.{digit_value, is_ascii_digit}
use Rattle.std.specs.List.{prefix_len}
use Rattle.std.proofs.lemmas.Bool.{cases_lt, ltb-true, eqb-true, false≢true, false_from_ne_true}
use Rattle.std.proofs.lemmas.Bool.Decides.{nat_tests}
use Rattle.std.proofs.lemmas.List.{get_or_past}
use Rattle.std.proofs.lemmas.List.Folds.{length-prefix_len}
use Rattle.std.proofs.lemmas.List.Sums.{prefix_len_passes}
use Rattle.template_compiler_tokens.specs.Token.{Symbol, TokenFault, Token, identifier, number, bad, bad_syntax, bad_escape, float_literal}
use Rattle.template_compiler_tokens.specs.Numbers.{is_digit, goes_on, digits_len, named_base, base_by, base_of, prefix_width, number_width, number_at, is_float, value_of, digits_at}
use Rattle.template_compiler_tokens.specs.Texts.{IsClose, close_here, close_behind, close_behind_escape, IsText, closed_text, bad_text, open_text}
use Rattle.template_compiler_tokens.specs.Lexical.{is_name_start, is_name_part, long_sign, short_sign, IsSign, long, short, no_sign, Class, name_class, number_class, text_class, sign_class, class_of, taken, BeginsAs, Begins, IsToken, token_at}

-- the text has so many bytes, at least one, and the last of them is ASCII
pub record EndsInAscii (s : List ℕ) (n : ℕ) : Type 0 where
  pub some : 0 < n
  pub within : n ≤ length s
  pub ascii : slice_index s (n - 1) < 128

nonzero_within : (s : List ℕ) (i : ℕ) → 0 < slice_index s i → i < length s
nonzero_within s i h = elim (cases_lt i (length s)) [ inl within ↦ within | inr past ↦ let none = get_or_past s i 0 past in absurd (omega arith) ]

pub ends_at : (s : List ℕ) (i : ℕ) → (0 < slice_index s i) × (slice_index s i < 128) → EndsInAscii s (i + 1)
ends_at s i h =
    let within = nonzero_within s i h.0 in
    let place : i + 1 - 1 ≡ i = omega arith in
    record { some = omega arith; within = omega arith; ascii = rw place h.1 }

pub digit_ascii : (base b : ℕ) → base ≤ 16 → is_digit base b ≡ true → (0 < b) × (b < 128)
unfolding is_digit
digit_ascii base b small e = let h = ltb-true (digit_value b) base e in grind (arith, nat_tests)

part_ascii : (b : ℕ) → is_name_part b ≡ true → (0 < b) × (b < 128)
unfolding is_name_part
part_ascii b e = grind (arith, nat_tests)

start_part : (b : ℕ) → is_name_start b ≡ true → is_name_part b ≡ true
unfolding is_name_part is_name_start
start_part b e = grind (arith, nat_tests)

last_of : (s : List ℕ) (n : ℕ) → 0 < n → (0 < slice_index s (n - 1)) × (slice_index s (n - 1) < 128) → EndsInAscii s n
last_of s n some h = let place : n - 1 + 1 ≡ n = omega arith in subst (λ m. EndsInAscii s m) place (ends_at s (n - 1) h)

name_ends : (s : List ℕ) → is_name_start (slice_index s 0) ≡ true → EndsInAscii s (prefix_len is_name_part s)
name_ends [] e = let h = part_ascii 0 (start_part 0 e) in absurd (omega (arith, h.0))
name_ends (b ∷ s) e =
    let first : is_name_part b ≡ true = start_part b e in
    let some : 0 < prefix_len is_name_part (b ∷ s) = rw first (omega arith) in
    let last = prefix_len_passes is_name_part (b ∷ s) (prefix_len is_name_part (b ∷ s) - 1) 0 (omega arith) in
    last_of (b ∷ s) (prefix_len is_name_part (b ∷ s)) some (part_ascii _ last)

pub class_starts : (b : ℕ) → class_of b ≡ name_class → is_name_start b ≡ true
unfolding class_of
class_starts b e = go (is_name_start b) (is_ascii_digit b) (b == 34 || b == 39) refl e
  where
    go : (x y z : Bool) → is_name_start b ≡ x →
        (if x then name_class else if y then number_class else if z then text_class else sign_class) ≡ name_class → is_name_start b ≡ true
    go true y z f g = f
    go false true z f g = absurd cc
    go false false true f g = absurd cc
    go false false false f g = absurd cc

class_digits : (b : ℕ) → class_of b ≡ number_class → is_ascii_digit b ≡ true
unfolding class_of
class_digits b e = go (is_name_start b) (is_ascii_digit b) (b == 34 || b == 39) refl e
  where
    go : (x y z : Bool) → is_ascii_digit b ≡ y →
        (if x then name_class else if y then number_class else if z then text_class else sign_class) ≡ number_class → is_ascii_digit b ≡ true
    go true y z f g = absurd cc
    go false true z f g = f
    go false false true f g = absurd cc
    go false false false f g = absurd cc

class_quotes : (b : ℕ) → class_of b ≡ text_class → (0 < b) × (b < 128)
unfolding class_of
class_quotes b e = go (is_name_start b) (is_ascii_digit b) (b == 34) (b == 39) refl refl e
  where
    go : (x y z w : Bool) → (b == 34) ≡ z → (b == 39) ≡ w →
        (if x then name_class else if y then number_class else if z || w then text_class else sign_class) ≡ text_class → (0 < b) × (b < 128)
    go true y z w f h g = absurd cc
    go false true z w f h g = absurd cc
    go false false true w f h g = let e = eqb-true b 34 f in (omega arith, omega arith)
    go false false false true f h g = let e = eqb-true b 39 h in (omega arith, omega arith)
    go false false false false f h g = absurd cc

goes_ascii : (base b next : ℕ) → base ≤ 16 → goes_on base b next ≡ true → (0 < b) × (b < 128)
unfolding goes_on
goes_ascii base b next small e = go (is_digit base b) (b == 95) refl refl e
  where
    go : (x y : Bool) → is_digit base b ≡ x → (b == 95) ≡ y → (x || (y && is_digit base next)) ≡ true → (0 < b) × (b < 128)
    go true y f g h = digit_ascii base b small f
    go false true f g h = let e = eqb-true b 95 g in (omega arith, omega arith)
    go false false f g h = absurd (false≢true h)

digits_ascii : (base : ℕ) (s : List ℕ) (k : ℕ) → base ≤ 16 → k < digits_len base s → (0 < get_or s k 0) × (get_or s k 0 < 128)
unfolding digits_len
digits_ascii base [] k small h = absurd (omega arith)
digits_ascii base (b ∷ s) k small h = go k (goes_on base b (slice_index s 0)) refl h (λ j l. digits_ascii base s j small l)
  where
    go : (k : ℕ) (x : Bool) → goes_on base b (slice_index s 0) ≡ x → k < (if x then suc (digits_len base s) else 0) →
        ((j : ℕ) → j < digits_len base s → (0 < get_or s j 0) × (get_or s j 0 < 128)) → (0 < get_or (b ∷ s) k 0) × (get_or (b ∷ s) k 0 < 128)
    go zero true e l rest = goes_ascii base b (slice_index s 0) small e
    go (suc k) true e l rest = rest k (omega arith)
    go k false e l rest = absurd (omega arith)

digits_end : (base : ℕ) (s : List ℕ) → base ≤ 16 → 0 < digits_len base s → EndsInAscii s (digits_len base s)
digits_end base s small some = last_of s (digits_len base s) some (digits_ascii base s (digits_len base s - 1) small (omega arith))

some_digits : (base : ℕ) (s : List ℕ) → base ≤ 16 → is_digit base (slice_index s 0) ≡ true → 0 < digits_len base s
unfolding digits_len goes_on
some_digits base [] small e = let h = digit_ascii base 0 small e in absurd (omega (arith, h.0))
some_digits base (b ∷ s) small e = let h : is_digit base b ≡ true = e in rw h (omega arith)

ten_digit : (b : ℕ) → is_ascii_digit b ≡ true → is_digit 10 b ≡ true
unfolding is_digit
ten_digit b e = grind (arith, nat_tests)

named_cases : (b base : ℕ) → named_base b ≡ Some base → (base ≡ 16) ⊎ ((base ≡ 8) ⊎ (base ≡ 2))
unfolding named_base
named_cases b base e = go (b == 120 || b == 88) (b == 111 || b == 79) (b == 98 || b == 66) e
  where
    go : (x y z : Bool) → (if x then Some 16 else if y then Some 8 else if z then Some 2 else None) ≡ Some base → (base ≡ 16) ⊎ ((base ≡ 8) ⊎ (base ≡ 2))
    go true y z f = inl cc
    go false true z f = inr (inl cc)
    go false false true f = inr (inr cc)
    go false false false f = absurd cc

ends_behind : (s : List ℕ) (p n : ℕ) → EndsInAscii (drop p s) n → EndsInAscii s (p + n)
ends_behind s p n h =
    let len = length-drop p s in
    let some = h.some in
    let within = h.within in
    let byte = get_or-drop p s (n - 1) 0 in
    let place : p + (n - 1) ≡ p + n - 1 = omega arith in
    let ascii = h.ascii in
    record { some = omega arith; within = omega arith; ascii = rw place at (rw byte at ascii) }

based_ends : (s : List ℕ) (base : ℕ) → base ≤ 16 → (base ≡ 10 → ⊥) → is_digit base (slice_index s 2) ≡ true →
    EndsInAscii s ((if base == 10 then 0 else 2) + digits_len base (drop (if base == 10 then 0 else 2) s))
based_ends s base small not e =
    let other : (base == 10) ≡ false = false_from_ne_true (base == 10) (λ t. not (eqb-true base 10 t)) in
    let byte : slice_index (drop 2 s) 0 ≡ slice_index s 2 = get_or-drop 2 s 0 0 in
    rw other (ends_behind s 2 (digits_len base (drop 2 s)) (digits_end base (drop 2 s) small (some_digits base (drop 2 s) small (rw byte e))))

ten_ends : (s : List ℕ) → is_ascii_digit (slice_index s 0) ≡ true → EndsInAscii s (0 + digits_len 10 s)
ten_ends s e =
    ends_behind s 0 (digits_len 10 s) (digits_end 10 s (omega arith) (some_digits 10 s (omega arith) (ten_digit (slice_index s 0) e)))

second : (x y : Bool) → (x && y) ≡ true → y ≡ true
second true y e = e
second false y e = absurd (false≢true e)

number_ends : (s : List ℕ) → is_ascii_digit (slice_index s 0) ≡ true → EndsInAscii s (number_width s)
unfolding number_width prefix_width base_of base_by
number_ends s e = by_name (named_base (slice_index s 1)) refl
  where
    by_digit : (base : ℕ) (x : Bool) → named_base (slice_index s 1) ≡ Some base → (slice_index s 0 == 48 && is_digit base (slice_index s 2)) ≡ x →
        EndsInAscii s ((if (if x then base else 10) == 10 then 0 else 2) + digits_len (if x then base else 10) (drop (if (if x then base else 10) == 10 then 0 else 2) s))
    by_digit base true f g =
        let digit : is_digit base (slice_index s 2) ≡ true = second (slice_index s 0 == 48) (is_digit base (slice_index s 2)) g in
        elim (named_cases (slice_index s 1) base f) [
          | inl h ↦ based_ends s base (omega arith) (λ k. absurd (omega arith)) digit
          | inr other ↦ elim other [
            | inl h ↦ based_ends s base (omega arith) (λ k. absurd (omega arith)) digit
            | inr h ↦ based_ends s base (omega arith) (λ k. absurd (omega arith)) digit
          ]
        ]
    by_digit base false f g = ten_ends s e

    by_name : (o : Option ℕ) → named_base (slice_index s 1) ≡ o →
        EndsInAscii s ((if base_by (slice_index s 0) o (slice_index s 2) == 10 then 0 else 2) + digits_len (base_by (slice_index s 0) o (slice_index s 2)) (drop (if base_by (slice_index s 0) o (slice_index s 2) == 10 then 0 else 2) s))
    by_name None f = ten_ends s e
    by_name (Some base) f = by_digit base (slice_index s 0 == 48 && is_digit base (slice_index s 2)) f refl

close_stands : {q : ℕ} {s : List ℕ} {n : ℕ} → IsClose q s n → slice_index s n ≡ q
close_stands (close_here e) = e
close_stands (close_behind e f h) = close_stands h
close_stands (close_behind_escape e f h) = close_stands h

text_ends : (s : List ℕ) (n : ℕ) → (0 < slice_index s 0) × (slice_index s 0 < 128) → IsClose (slice_index s 0) (drop 1 s) n → EndsInAscii s (n + 2)
text_ends s n quote close =
    let stands = close_stands close in
    let byte = get_or-drop 1 s n 0 in
    let place : 1 + n + 1 ≡ n + 2 = omega arith in
    subst (λ m. EndsInAscii s m) place (ends_at s (1 + n) (omega (arith, quote.0), omega (arith, quote.1)))

long_ascii : (b c : ℕ) (x : Symbol) → long_sign b c ≡ Some x → (0 < c) × (c < 128)
unfolding long_sign
long_ascii b c x e = grind (arith, nat_tests)

short_ascii : (b : ℕ) (x : Symbol) → short_sign b ≡ Some x → (0 < b) × (b < 128)
unfolding short_sign
short_ascii b x e = grind (arith, nat_tests)

-- none stands there
abbrev pub IsNone : Token → ℕ → Type 0
IsNone t n = (fault : TokenFault) × (t ≡ bad fault) × (n ≡ 0)

sign_ends : {s : List ℕ} {t : Token} {n : ℕ} → IsSign s t n → IsNone t n ⊎ EndsInAscii s n
sign_ends {s} (long {x = x} e) = inr (ends_at s 1 (long_ascii (slice_index s 0) (slice_index s 1) x e))
sign_ends {s} (short {x = x} e f) = inr (ends_at s 0 (short_ascii (slice_index s 0) x f))
sign_ends (no_sign e f) = inl (bad_syntax, refl, refl)

is_text_ends : (s : List ℕ) {t : Token} {n : ℕ} → (0 < slice_index s 0) × (slice_index s 0 < 128) → IsText (slice_index s 0) (drop 1 s) t n →
    IsNone t n ⊎ EndsInAscii s n
is_text_ends s quote (closed_text {n = n} h u e) = inr (rw e (text_ends s n quote h))
is_text_ends s quote (bad_text h none) = inl (bad_escape, refl, refl)
is_text_ends s quote (open_text none) = inl (bad_syntax, refl, refl)

pub number_or_none : (s : List ℕ) → ((fault : TokenFault) × (number_at s ≡ bad fault)) ⊎ ((n : ℕ) × (number_at s ≡ number n))
unfolding number_at
number_or_none s = go (is_float s) (nat_lt (value_of (base_of s) (digits_at s)) (2 ^ 127)) (value_of (base_of s) (digits_at s))
  where
    go : (x y : Bool) (v : ℕ) →
        ((fault : TokenFault) × ((if x then bad float_literal else if y then number v else bad bad_syntax) ≡ bad fault)) ⊎
        ((n : ℕ) × ((if x then bad float_literal else if y then number v else bad bad_syntax) ≡ number n))
    go true y v = inl (float_literal, refl)
    go false true v = inr (v, refl)
    go false false v = inl (bad_syntax, refl)

is_number_ends : (s : List ℕ) {t : Token} {n : ℕ} → is_ascii_digit (slice_index s 0) ≡ true → t ≡ number_at s → n ≡ taken t (number_width s) →
    IsNone t n ⊎ EndsInAscii s n
is_number_ends s digit e f = elim (number_or_none s) [
  | inl none ↦ inl (none.0, e ∙ none.1, rw (e, none.1) at f)
  | inr some ↦ inr (rw (rw (e, some.1) at f) (number_ends s digit))
]

begins_as : (k : Class) (s : List ℕ) {t : Token} {n : ℕ} → class_of (slice_index s 0) ≡ k → BeginsAs k s t n → IsNone t n ⊎ EndsInAscii s n
begins_as name_class s c (e, f) = inr (rw (f, length-prefix_len) (name_ends s (class_starts (slice_index s 0) c)))
begins_as number_class s c (e, f) = is_number_ends s (class_digits (slice_index s 0) c) e f
begins_as text_class s c h = is_text_ends s (class_quotes (slice_index s 0) c) h
begins_as sign_class s c h = sign_ends h

pub begins_ends : (s : List ℕ) {t : Token} {n : ℕ} → Begins s t n → IsNone t n ⊎ EndsInAscii s n
begins_ends s h = begins_as (class_of (slice_index s 0)) s refl h

-- a bad token ends where it begins, any other behind that and within the text
pub token_ends : (s : List ℕ) (i n : ℕ) (t : Token) → IsToken s i t n →
    ((fault : TokenFault) × (t ≡ bad fault) × (n ≡ i)) ⊎ ((i < n) × (n ≤ length s))
token_ends s i n t (token_at width h e) = elim (begins_ends (drop i s) h) [
  | inl none ↦ inl (none.0, none.1, omega (arith, none.2))
  | inr ends ↦
      let len = length-drop i s in
      let some = ends.some in
      let within = ends.within in
      inr (omega arith, omega arith)
]

name_as : (k : Class) (s name : List ℕ) (n : ℕ) → BeginsAs k s (identifier name) n → name ≡ take_while is_name_part s
name_as name_class s name n (e, f) = cc
name_as number_class s name n (e, f) = elim (number_or_none s) [
  | inl none ↦ let same = e ∙ none.1 in cc
  | inr some ↦ let same = e ∙ some.1 in cc
]
name_as text_class s name n h = elim h [ ]
name_as sign_class s name n h = elim h [ ]

-- a name that stands at a place is the longest that does
pub name_stands : (s : List ℕ) (i : ℕ) {name : List ℕ} {n : ℕ} → IsToken s i (identifier name) n → name ≡ take_while is_name_part (drop i s)
name_stands s i {name = name} (token_at width h e) = name_as (class_of (slice_index (drop i s) 0)) (drop i s) name width h
