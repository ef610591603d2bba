-- Members as the texts that they are.
use Rattle.std.specs.Prelude.{ℕ, List, Option, map}
use Rattle.std.specs.Borrow.{Bor}
use Rattle.json.specs.Find.{as_str}
use Rattle.json.specs.Value.{value_view}
use Rattle.json.specs.declared.value.Value.{Value}

-- the name of a member with its text, if it is one
abbrev pub text_member : {A : Type 0} → Bor (List ℕ) × Value A → List ℕ × Option (List ℕ)
text_member m = (m.0.now, as_str (value_view m.1))

abbrev pub texts_of : {A : Type 0} → List (Bor (List ℕ) × Value A) → List (List ℕ × Option (List ℕ))
texts_of members = map text_member members
