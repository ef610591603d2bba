-- Renders of sources in which no marker starts.
use Rattle.std.specs.Prelude.{◌≡◌, ℕ, ◌⊎◌, List, [], ◌∷◌, Option, Result, Ok, Err}
use Rattle.std.specs.Io.KnownBytes.{Appends}
use Rattle.template_values_errors.specs.declared.ErrorKind.{ErrorKind}
use Rattle.template_values_errors.specs.declared.ErrorKind.TheVariants.{OutOfFuel, TooLarge}
use Rattle.template_values_errors.specs.Memory.{NoMemory}
use Rattle.template_compiler_process.specs.Drive.{ends}
use Rattle.template_compiler_process.specs.Trace.{Run, paid, written, behind, ended}
use Rattle.template_machine_going.specs.Paying.{IsSpent}
use Rattle.template_machine_renders.specs.Outcomes.{IsWant}
use Rattle.template_machine_meaning.specs.World.{World}
use Rattle.template_compiled.specs.Sources.{HasNoRoom}
pub use Rattle.template_compiled.specs.Plain.{IsPlain, text_kept}

-- a text alone is one step and the text; nothing where it is empty
abbrev pub text_run : List ℕ → World → Run World
text_run [] w = ended (ends []) w
text_run (byte ∷ bytes) w = behind (paid [] ∷ written (byte ∷ bytes) ∷ []) (ended (ends []) w)

-- the source is too large, or a growth was refused
abbrev pub IsRefusedForRoom : List ErrorKind → Type 0
IsRefusedForRoom kinds = (kinds ≡ TooLarge ∷ []) ⊎ NoMemory kinds

-- the call gives the text itself; or a growth was refused, or the fuel paid no step
abbrev pub GivesItself : {X : Type 0} → Option ℕ → List ℕ → (X → List ℕ) → Result X (List ErrorKind) → Type 0
GivesItself fuel bytes text (Ok x) = text x ≡ bytes
GivesItself fuel bytes text (Err kinds) = NoMemory kinds ⊎ ((kinds ≡ OutOfFuel ∷ []) × IsSpent fuel)

-- the same of a call that reads the source first, which may be too large
abbrev pub ReadGivesItself : {X : Type 0} → Option ℕ → List ℕ → List ℕ → (X → List ℕ) → Result X (List ErrorKind) → Type 0
ReadGivesItself fuel source bytes text (Ok x) = text x ≡ bytes
ReadGivesItself fuel source bytes text (Err kinds) = HasNoRoom source kinds ⊎ ((kinds ≡ OutOfFuel ∷ []) × IsSpent fuel)

-- the same of a call that writes it into a sink
abbrev pub WritesItself : {X : Type 0} → Option ℕ → List ℕ → Option (List ℕ) → Option (List ℕ) → Result X (List ErrorKind) → Type 0
WritesItself fuel bytes before after (Ok _) = Appends before after bytes
WritesItself fuel bytes before after (Err kinds) = IsWant kinds ⊎ ((kinds ≡ OutOfFuel ∷ []) × IsSpent fuel)
