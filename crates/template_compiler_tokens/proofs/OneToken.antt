-- One token or none at a place, and always one, a bad one where no other stands.
use Rattle.std.proofs.Common.{◌≡◌, ℕ, ◌+◌, ◌⊎◌, inl, inr, List, length, take, drop, take_while, slice_index, Option, None, Some, refl, sym, ◌∙◌, ap, subst, arith}
use Rattle.template_compiler_tokens.specs.Token.{Symbol, Token, identifier, string, symbol, bad, bad_syntax, bad_escape}
use Rattle.template_compiler_tokens.specs.Numbers.{number_at, number_width}
use Rattle.template_compiler_tokens.specs.Texts.{IsClose, Unescapes, IsText, closed_text, bad_text, open_text}
use Rattle.template_compiler_tokens.specs.Lexical.{is_name_part, long_sign, short_sign, IsSign, long, short, no_sign, Class, name_class, number_class, text_class, sign_class, class_of, taken, BeginsAs, Begins, IsToken, token_at}
use Rattle.template_compiler_tokens.proofs.Texts.{one_close, one_text}
use Rattle.template_compiler_tokens.proofs.Decided.{DecidesText, decide_close, decide_text}

same_text : {q : ℕ} {s : List ℕ} {t u : Token} {n m : ℕ} → IsText q s t n → IsText q s u m → (t ≡ u) × (n ≡ m)
same_text {s = s} (closed_text {text = v} h k e) (closed_text {text = w} h' k' e') =
    let close = one_close h h' in
    let text : v ≡ w = one_text (subst (λ i. Unescapes (take i s) v) close k) k' in
    (ap string text, omega arith)
same_text {s = s} (closed_text {text = v} h k e) (bad_text h' none) =
    absurd (none v (subst (λ i. Unescapes (take i s) v) (one_close h h') k))
same_text (closed_text {n = i} h k e) (open_text none) = absurd (none i h)
same_text {s = s} (bad_text h' none) (closed_text {text = v} h k e) =
    absurd (none v (subst (λ i. Unescapes (take i s) v) (one_close h h') k))
same_text (bad_text h none) (bad_text h' none') = (refl, refl)
same_text (bad_text {n = i} h none) (open_text unclosed) = absurd (unclosed i h)
same_text (open_text none) (closed_text {n = i} h k e) = absurd (none i h)
same_text (open_text unclosed) (bad_text {n = i} h none) = absurd (unclosed i h)
same_text (open_text none) (open_text none') = (refl, refl)

same_sign : {s : List ℕ} {t u : Token} {n m : ℕ} → IsSign s t n → IsSign s u m → (t ≡ u) × (n ≡ m)
same_sign (long e) (long f) = (cc, refl)
same_sign (long e) (short f g) = let h = sym e ∙ f in cc
same_sign (long e) (no_sign f g) = let h = sym e ∙ f in cc
same_sign (short f g) (long e) = let h = sym e ∙ f in cc
same_sign (short f g) (short e h) = (cc, refl)
same_sign (short f g) (no_sign e h) = let k = sym g ∙ h in cc
same_sign (no_sign f g) (long e) = let h = sym e ∙ f in cc
same_sign (no_sign e h) (short f g) = let k = sym g ∙ h in cc
same_sign (no_sign f g) (no_sign e h) = (refl, refl)

same_as : (k : Class) (s : List ℕ) {t u : Token} {n m : ℕ} → BeginsAs k s t n → BeginsAs k s u m → (t ≡ u) × (n ≡ m)
same_as name_class s (e, f) (g, h) = (e ∙ sym g, f ∙ sym h)
same_as number_class s {t} {u} {n} {m} (e, f) (g, h) =
    let same = e ∙ sym g in (same, f ∙ ap (λ x. taken x (number_width s)) same ∙ sym h)
same_as text_class s h k = same_text h k
same_as sign_class s h k = same_sign h k

pub same_begin : (s : List ℕ) {t u : Token} {n m : ℕ} → Begins s t n → Begins s u m → (t ≡ u) × (n ≡ m)
same_begin s h k = same_as (class_of (slice_index s 0)) s h k

pub one_token : (s : List ℕ) (i : ℕ) (t u : Token) (n m : ℕ) → IsToken s i t n → IsToken s i u m → (t ≡ u) × (n ≡ m)
one_token s i t u n m (token_at v h e) (token_at w k f) =
    let same = same_begin (drop i s) h k in (same.0, e ∙ ap (λ x. i + x) same.1 ∙ sym f)

text_there : (q : ℕ) (s : List ℕ) → (t : Token) × (n : ℕ) × IsText q s t n
text_there q s = go (decide_close q s)
  where
    by_text : (n : ℕ) → IsClose q s n → DecidesText (take n s) → (t : Token) × (n : ℕ) × IsText q s t n
    by_text n h (inl (text, u)) = (string text, n + 2, closed_text h u refl)
    by_text n h (inr none) = (bad bad_escape, 0, bad_text h none)

    go : ((n : ℕ) × IsClose q s n) ⊎ ((n : ℕ) → IsClose q s n → ⊥) → (t : Token) × (n : ℕ) × IsText q s t n
    go (inl (n, h)) = by_text n h (decide_text (length (take n s)) (take n s) (omega arith))
    go (inr none) = (bad bad_syntax, 0, open_text none)

sign_there : (s : List ℕ) → (t : Token) × (n : ℕ) × IsSign s t n
sign_there s = go (long_sign (slice_index s 0) (slice_index s 1)) (short_sign (slice_index s 0)) refl refl
  where
    go : (l k : Option Symbol) → long_sign (slice_index s 0) (slice_index s 1) ≡ l → short_sign (slice_index s 0) ≡ k →
        (t : Token) × (n : ℕ) × IsSign s t n
    go (Some x) k e f = (symbol x, 2, long e)
    go None (Some x) e f = (symbol x, 1, short e f)
    go None None e f = (bad bad_syntax, 0, no_sign e f)

there_as : (k : Class) (s : List ℕ) → (t : Token) × (n : ℕ) × BeginsAs k s t n
there_as name_class s = (identifier (take_while is_name_part s), length (take_while is_name_part s), (refl, refl))
there_as number_class s = (number_at s, taken (number_at s) (number_width s), (refl, refl))
there_as text_class s = text_there (slice_index s 0) (drop 1 s)
there_as sign_class s = sign_there s

pub some_token : (s : List ℕ) (i : ℕ) → (t : Token) × (n : ℕ) × IsToken s i t n
some_token s i =
    let there = there_as (class_of (slice_index (drop i s) 0)) (drop i s) in
    (there.0, i + there.1, token_at there.1 there.2 refl)
