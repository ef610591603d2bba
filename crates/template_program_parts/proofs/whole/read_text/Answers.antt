-- Where no read failed and the bytes were not too many, they were all taken and are no text.
use Rattle.std.proofs.Common.{◌≡◌, ℕ, List, IsOk, is_ok, Err, IsUtf8, Result, Option, ap, false, inr}
use Rattle.std.specs.Io.KnownBytes.{Consumes, IsAtEnd}
use Rattle.template_program_parts.specs.Reading.{GivesNoText}
use Rattle.template_program_parts.proofs.whole.read_text.Goals as goal

GivesNoText-refused : {T E F G : Type 0} (a b : Option (List ℕ)) (bytes : List ℕ) (read : Result T E) (mapped : Result F G) (fault : G)
    → Consumes a b bytes → IsAtEnd b → (IsUtf8 bytes → IsOk read) → is_ok mapped ≡ is_ok read → mapped ≡ Err fault → GivesNoText a b
GivesNoText-refused a b bytes read mapped fault taken end succeeds same refused = (
  bytes,
  taken,
  end,
  λ text.
      let read_well : IsOk read = succeeds text in
      let none : is_ok mapped ≡ false = ap is_ok refused in
      cc,
)

pub returns-clause-file : goal.returns-clause-file
returns-clause-file g c = λ refused. inr (inr (GivesNoText-refused _ _ c.in_ok-bytes.bytes.items _ _ _
    c.in_ok-bytes.ensures.taken c.in_ok-bytes.ensures.end c.from_utf8.ensures.succeeds c.map_err.ensures.variant refused))
