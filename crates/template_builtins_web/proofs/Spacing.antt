-- Texts without their first character.
use Rattle.std.proofs.Common.{◌≡◌, ℕ, List, [], ◌∷◌, ◌++◌, length, drop, sym, ap, ◌∙◌, arith, Option, None, Some, MatchOption}
use Rattle.std.specs.Prelude.{encode_utf8, encode_utf8_all}
use Rattle.std.specs.Str.{IsUtf8}
use Rattle.std.proofs.lemmas.Str.{IsUtf8-past_char, chars-nil, chars_past_char, encodes-chars}
use Rattle.template_builtins_web.specs.Attributes.{without_first}

past_first : (text rest : List ℕ) (c : ℕ) → IsUtf8 text → text ≡ encode_utf8 c ++ rest → rest ≡ without_first text
past_first text rest c utf8 is =
    sym
    (ap (λ (x : List ℕ). encode_utf8_all (drop 1 x)) (chars_past_char text rest c utf8 is)
    ∙ encodes-chars rest (IsUtf8-past_char text rest c utf8 is))

past_nothing : (text : List ℕ) → length text ≡ 0 → text ≡ without_first text
past_nothing [] none = sym (ap (λ (x : List ℕ). encode_utf8_all (drop 1 x)) chars-nil)
past_nothing (b ∷ text) none = absurd (omega (arith, none))

-- after a step over the characters
pub stepped : {S : Type 0} (rest_of : S → List ℕ) (text : List ℕ) (s t : S) (r : Option ℕ) → IsUtf8 text → rest_of s ≡ text
    → MatchOption r ((length (rest_of s) ≡ 0) × (t ≡ s)) (λ c. rest_of s ≡ encode_utf8 c ++ rest_of t)
    → rest_of t ≡ without_first text
stepped rest_of text s t (Some c) utf8 is step = past_first text (rest_of t) c utf8 (sym is ∙ step)
stepped rest_of text s t None utf8 is step = ap rest_of step.1 ∙ is ∙ past_nothing text (sym (ap length is) ∙ step.0)
