use Rattle.std.proofs.Common.{◌≡◌, List, ℕ, Bool, true, false, refl, ap, cond}
use Rattle.std.specs.List.{flat_map}
use Rattle.std.specs.Str.{IsUtf8, is_utf8}
use Rattle.std.proofs.lemmas.Str.{IsUtf8-from_is_utf8, is_utf8-from_IsUtf8}
use Rattle.template_values_forms.specs.Escapes.{replaced_byte}
use Rattle.template_values_forms.specs.Printed.{bytes_text}
use Rattle.template_values_print.proofs.pieces.push_bytes.Goals as goal

bytes_text-utf8 : (s : List ℕ) → IsUtf8 s → bytes_text s ≡ s
bytes_text-utf8 s h = ap (λ (b : Bool). cond b s (flat_map replaced_byte s)) (is_utf8-from_IsUtf8 s h)

bytes_text-other : (s : List ℕ) → (IsUtf8 s → ⊥) → bytes_text s ≡ flat_map replaced_byte s
bytes_text-other s h = by (is_utf8 s) refl
  where
    by : (b : Bool) → is_utf8 s ≡ b → cond b s (flat_map replaced_byte s) ≡ flat_map replaced_byte s
    by true e = absurd (h (IsUtf8-from_is_utf8 s e))
    by false e = refl

pub returns-in-Ok : goal.returns-in-Ok
returns-in-Ok c = rw (bytes_text-utf8 c.args.bytes.now c.in-Ok.ensures.cases.1) (rw (c.in-Ok.ensures.cases.0) at c.push.ensures)

pub returns-in-Err : goal.returns-in-Err
returns-in-Err c = rw (bytes_text-other c.args.bytes.now c.in-Err.ensures.cases.0) c.push_replaced.ensures
