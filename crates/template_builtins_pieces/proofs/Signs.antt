-- Texts that begin with a sign.
use Rattle.std.proofs.Common.{◌≡◌, ℕ, ◌<◌, Bool, true, false, List, [], ◌∷◌, length, slice_index, refl, sym, true≢false, arith, IsUtf8, if◌then◌else◌}
use Rattle.std.specs.Str.{IsCharBoundary}
use Rattle.std.proofs.lemmas.Grind.{common_steps}
use Rattle.std.proofs.lemmas.Str.{IsCharBoundary-after_ascii, IsCharBoundary-start}
use Rattle.template_builtins_pieces.specs.Padding.{is_sign, sign_length}

sign_low : (b : ℕ) → is_sign b ≡ true → b < 128
sign_low b sign = grind (arith, common_steps)

sign_there : (s : List ℕ) → is_sign (slice_index s 0) ≡ true → 0 < length s
sign_there [] sign = absurd (true≢false (sym sign))
sign_there (b ∷ s) sign = omega arith

-- a text may be cut behind its sign
pub sign_edge : (s : List ℕ) → IsUtf8 s → IsCharBoundary s (sign_length s)
sign_edge s utf8 = by_test (is_sign (slice_index s 0)) refl
  where
    by_test : (t : Bool) → is_sign (slice_index s 0) ≡ t → IsCharBoundary s (if t then 1 else 0)
    by_test true sign = IsCharBoundary-after_ascii s 0 utf8 (sign_there s sign) (sign_low (slice_index s 0) sign)
    by_test false sign = IsCharBoundary-start s utf8
