-- What an output shows, and what becomes of it where a text is written.
use Rattle.std.specs.Prelude.{◌≡◌, ℕ, List, [], ◌∷◌, ◌++◌, Option, None, Some, OnOk, Result, Ok, Err}
use Rattle.std.specs.Io.KnownBytes.{Appends}
use Rattle.std.specs.declared.io.Error.{Error}
use Rattle.template_machine_surroundings.specs.Writes.{AppendsBeginning}
use Rattle.template_program_output.specs.Answer.{Answer, failures_among, failures_of, to_flush}

-- the bytes that an output holds, and what it answered so far, where these are known
pub record Shown : Type 0 where
  pub bytes : Option (List ℕ)
  pub answers : Option (List Answer)

-- it answered once more, so
abbrev pub TellsAnswer : Option (List Answer) → Option (List Answer) → Answer → Type 0
TellsAnswer None new answer = new ≡ None
TellsAnswer (Some answers) new answer = new ≡ Some (answers ++ answer ∷ [])

-- it answered any number of times more, with one failure where the result is one, and else none
abbrev pub TellsResult : Option (List Answer) → Option (List Answer) → Result (Unit {0}) Error → Type 0
TellsResult None new result = new ≡ None
TellsResult (Some answers) new result =
    (more : List Answer) × (new ≡ Some (answers ++ more)) × (failures_among more ≡ failures_of result)

-- the last of its answers is to a flush, which went well
abbrev pub IsFlushed : Option (List Answer) → Type 0
IsFlushed None = Unit {0}
IsFlushed (Some answers) = (earlier : List Answer) × (answers ≡ earlier ++ to_flush (Ok tt) ∷ [])

-- the bytes grow by a text, or by a beginning of it where it could not be written
abbrev pub GrowsBy : Option (List ℕ) → Option (List ℕ) → List ℕ → Result (Unit {0}) Error → Type 0
GrowsBy before after text (Ok _) = Appends before after text
GrowsBy before after text (Err _) = AppendsBeginning before after text

-- A text was written: all of it, or a beginning where a write failed or memory was wanting.
abbrev pub Writes : Shown → Shown → List ℕ → Result (Unit {0}) Error → Type 0
Writes before after text result =
    GrowsBy before.bytes after.bytes text result × TellsResult before.answers after.answers result

-- a text was written, or a beginning of it where a write failed or memory was wanting
abbrev pub Puts : Shown → Shown → List ℕ → Type 0
Puts before after text = (result : Result (Unit {0}) Error) × Writes before after text result

-- the same, and it was flushed where that went well
abbrev pub PutsFlushed : Shown → Shown → List ℕ → Type 0
PutsFlushed before after text =
    (result : Result (Unit {0}) Error) × Writes before after text result × OnOk result (IsFlushed after.answers)
