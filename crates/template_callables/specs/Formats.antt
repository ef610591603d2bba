-- What the answers of formatters state.
use Rattle.std.specs.Prelude.{◌≡◌, ◌⊎◌, [], ◌∷◌, string_bytes}
use Rattle.template_values_errors.specs.declared.ErrorKind.TheVariants.{OutOfMemory}
use Rattle.template_callables.specs.Callables.{Formatted, writes, escapes, forbids}
use Rattle.template_callables.specs.declared.format.FormatAnswer.{FormatAnswer}
use Rattle.template_callables.specs.declared.format.FormatAnswer.TheVariants.{Raw, Escaped, Fault}

abbrev pub formatted_by : FormatAnswer → Formatted
formatted_by (Raw text) = writes (string_bytes text)
formatted_by (Escaped v) = escapes v
formatted_by (Fault kinds) = forbids kinds

-- the answer is what is stated, or want of memory
abbrev pub Formats : Formatted → FormatAnswer → Type 0
Formats stated answer = (formatted_by answer ≡ stated) ⊎ (formatted_by answer ≡ forbids (OutOfMemory ∷ []))
