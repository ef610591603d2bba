-- A text with references is a text.
use Rattle.std.proofs.Common.{◌≡◌, ℕ, suc, ◌<◌, ◌≤◌, true, List, [], ◌∷◌, ◌++◌, length, get_or, IsUtf8, inl, inr, refl, sym, ap₂, subst, arith, append-nil}
use Rattle.std.proofs.lemmas.Bool.{and_parts, cases_lt}
use Rattle.std.proofs.lemmas.Str.{IsUtf8-append, IsUtf8-encode, encode_ascii, inside_one}
use Rattle.std.proofs.lemmas.List.Concat.{flat_map-append}
use lib.Utf8.{scalar, scalars, encode, encodes}
use Rattle.template_values_forms.specs.Escapes.{html_byte, html}
use Rattle.template_values_print.proofs.PieceLemmas.{IsUtf8-nil, html_byte-utf8}

-- a byte past 127 stands for itself
html_byte_plain : (x : ℕ) → 128 ≤ x → html_byte x ≡ x ∷ []
html_byte_plain x high = grind arith

html_high : (xs : List ℕ) → ((k : ℕ) → k < length xs → 128 ≤ get_or xs k 0) → html xs ≡ xs
html_high [] h = refl
html_high (x ∷ xs) h =
    ap₂ (λ (a b : List ℕ). a ++ b) (html_byte_plain x (h 0 (omega arith))) (html_high xs (λ k below. h (suc k) (omega arith)))

one_char : (c : ℕ) → scalar c ≡ true → IsUtf8 (html (encode c))
one_char c ok = elim (cases_lt c 128) [
  | inl small ↦ rw (encode_ascii c small, append-nil) (html_byte-utf8 c small)
  | inr big ↦
      let high : (k : ℕ) → k < length (encode c) → 128 ≤ get_or (encode c) k 0 = λ k below. elim (cases_lt (get_or (encode c) k 0) 128) [
        | inl low ↦ absurd (omega (arith, inside_one c [] (encode c) k (sym (append-nil _)) below low))
        | inr h ↦ h
      ] in
      subst IsUtf8 (sym (html_high (encode c) high)) (IsUtf8-encode c ok)
]

all_chars : (cs : List ℕ) → scalars cs ≡ true → IsUtf8 (html (encodes cs))
all_chars [] e = IsUtf8-nil
all_chars (c ∷ cs) e =
    let p = and_parts _ _ e in
    subst IsUtf8 (sym (flat_map-append html_byte (encode c) (encodes cs))) (IsUtf8-append _ _ (one_char c p.0) (all_chars cs p.1))

pub html-utf8 : (s : List ℕ) → IsUtf8 s → IsUtf8 (html s)
html-utf8 s u = subst (λ l. IsUtf8 (html l)) u.1.1 (all_chars u.0 u.1.0)
