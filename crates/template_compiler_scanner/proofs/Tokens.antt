-- Signs, names and classes of tokens.
use Rattle.std.proofs.Common.{◌≡◌, ℕ, ◌<◌, ◌⊎◌, inl, inr, Result, Ok, Err, IfOk, IsUtf8, IsCharBoundary, if◌then◌else◌, Bool, true, false, ◌==◌, ◌||◌, List, None, Some, slice_index, refl, sym, ◌∙◌, arith}
use Rattle.std.specs.Char.{is_ascii_digit}
use Rattle.std.proofs.lemmas.Bool.{eq-eqb, eqb-true, false_from_ne_true}
use Rattle.std.proofs.lemmas.Bool.Decides.{nat_tests}
use Rattle.template_values_errors.specs.declared.ErrorKind.{ErrorKind}
use Rattle.template_compiler_tokens.specs.Token.{Symbol, Token, symbol, bad, bad_syntax}
use Rattle.template_compiler_tokens.specs.Numbers.{number_width}
use Rattle.template_compiler_tokens.specs.declared.token.Token.{Token as Scanned}
use Rattle.template_compiler_tokens.specs.View.{token_of}
use Rattle.template_compiler_tokens.proofs.Ends.{begins_ends}
use Rattle.template_compiler_tokens.proofs.Views.{never_bad, taken_whole}
use Rattle.template_compiler_scanner.specs.Scans.{Scans, ScansNumber, ScansText, ScansSign}
use Rattle.template_compiler_scanner.proofs.Cuts.{cut_behind_ascii}
use Rattle.template_compiler_tokens.specs.Lexical.{is_name_start, long_sign, short_sign, IsSign, long, short, no_sign, Class, name_class, number_class, text_class, sign_class, class_of, BeginsAs, Begins}

pub long_found : (s : List ℕ) (t : Token) (x : Symbol) → t ≡ symbol x → Some x ≡ long_sign (slice_index s 0) (slice_index s 1) → IsSign s t 2
long_found s t x e f = rw e (long (sym f))

pub short_found : (s : List ℕ) (t : Token) (x : Symbol) → t ≡ symbol x → long_sign (slice_index s 0) (slice_index s 1) ≡ None →
    Some x ≡ short_sign (slice_index s 0) → IsSign s t 1
short_found s t x e none f = rw e (short none (sym f))

pub class_name : (b : ℕ) → is_name_start b ≡ true → class_of b ≡ name_class
unfolding class_of
class_name b e = rw e

pub class_number : (b : ℕ) → is_name_start b ≡ false → is_ascii_digit b ≡ true → class_of b ≡ number_class
unfolding class_of
class_number b e f = rw (e, f)

pub class_text : (b : ℕ) → is_name_start b ≡ false → is_ascii_digit b ≡ false → (b ≡ 34) ⊎ (b ≡ 39) → class_of b ≡ text_class
unfolding class_of
class_text b e f (inl g) = let h : (b == 34) ≡ true = eq-eqb b 34 g in rw (e, f, h)
class_text b e f (inr g) = let h : (b == 39) ≡ true = eq-eqb b 39 g in rw (e, f, h) (either (b == 34))
  where
    either : (x : Bool) → (if x || true then text_class else sign_class) ≡ text_class
    either true = refl
    either false = refl

pub class_sign : (b : ℕ) → is_name_start b ≡ false → is_ascii_digit b ≡ false → (b ≡ 34 → ⊥) → (b ≡ 39 → ⊥) → class_of b ≡ sign_class
unfolding class_of
class_sign b e f g h =
    let double : (b == 34) ≡ false = false_from_ne_true (b == 34) (λ t. g (eqb-true b 34 t)) in
    let single : (b == 39) ≡ false = false_from_ne_true (b == 39) (λ t. h (eqb-true b 39 t)) in
    rw (e, f, double, single)

pub begins : (k : Class) (s : List ℕ) (t : Token) (n : ℕ) → class_of (slice_index s 0) ≡ k → BeginsAs k s t n → Begins s t n
begins k s t n e h = rw e h

-- what the number's scanner answers is the token
pub number_scans : (s : List ℕ) (r : Result (Scanned × ℕ) ErrorKind) → class_of (slice_index s 0) ≡ number_class → ScansNumber s r → Scans s r
number_scans s (Ok found) c (e, f) = begins number_class s (token_of found.0) found.1 c (e, f ∙ sym (taken_whole found.0 (number_width s)))
number_scans s (Err kind) c (fault, e, f) = inl (fault, e, begins number_class s (bad fault) 0 c (sym f, refl))

pub text_scans : (s : List ℕ) (r : Result (Scanned × ℕ) ErrorKind) → class_of (slice_index s 0) ≡ text_class → ScansText s r → Scans s r
text_scans s (Ok found) c h = begins text_class s (token_of found.0) found.1 c h
text_scans s (Err kind) c (inl memory) = inr (memory, c)
text_scans s (Err kind) c (inr (fault, e, h)) = inl (fault, e, begins text_class s (bad fault) 0 c h)

pub sign_scans : (s : List ℕ) (r : Result (Scanned × ℕ) ErrorKind) → class_of (slice_index s 0) ≡ sign_class → ScansSign s r → Scans s r
sign_scans s (Ok found) c h = begins sign_class s (token_of found.0) found.1 c h
sign_scans s (Err kind) c (e, h) = inl (bad_syntax, e, begins sign_class s (bad bad_syntax) 0 c h)

pub scans_cut : (s : List ℕ) (r : Result (Scanned × ℕ) ErrorKind) → IsUtf8 s → Scans s r → IfOk r (λ found. IsCharBoundary s found.1)
scans_cut s (Ok found) u h = elim (begins_ends s h) [ inl none ↦ absurd (never_bad found.0 none.0 none.1) | inr ends ↦ cut_behind_ascii s found.1 u ends ]
scans_cut s (Err kind) u h = tt

pub scans_some : (s : List ℕ) (r : Result (Scanned × ℕ) ErrorKind) → Scans s r → IfOk r (λ found. 0 < found.1)
scans_some s (Ok found) h = elim (begins_ends s h) [ inl none ↦ absurd (never_bad found.0 none.0 none.1) | inr ends ↦ ends.some ]
scans_some s (Err kind) h = tt

-- a sign stands where neither a name, a number nor a text begins
long_class : (b c : ℕ) (x : Symbol) → long_sign b c ≡ Some x → class_of b ≡ sign_class
unfolding long_sign class_of is_name_start
long_class b c x e = grind (arith, nat_tests)

short_class : (b : ℕ) (x : Symbol) → short_sign b ≡ Some x → class_of b ≡ sign_class
unfolding short_sign class_of is_name_start
short_class b x e = grind (arith, nat_tests)

sign_by : (s : List ℕ) (t : Scanned) (u : Token) (n : ℕ) → token_of t ≡ u → IsSign s u n → class_of (slice_index s 0) ≡ sign_class
sign_by s t u n e (long {x = x} f) = long_class (slice_index s 0) (slice_index s 1) x f
sign_by s t u n e (short {x = x} none f) = short_class (slice_index s 0) x f
sign_by s t u n e (no_sign none f) = absurd (never_bad t bad_syntax e)

pub sign_stands : (s : List ℕ) (t : Scanned) (n : ℕ) → IsSign s (token_of t) n → class_of (slice_index s 0) ≡ sign_class
sign_stands s t n sign = sign_by s t (token_of t) n refl sign
