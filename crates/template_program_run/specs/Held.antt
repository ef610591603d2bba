-- Documents as they were read.
use Rattle.std.specs.Prelude.{ℕ, List, map, Option, None, Some, Vec}
use Rattle.std.specs.declared.alloc.Global.{Global}
use Rattle.template_program_contexts.specs.declared.documents.Form.{Form}
use Rattle.template_program_run.specs.Origins.{Origin, file, input}
use Rattle.template_program_run.specs.declared.documents.Held.{Held}
use Rattle.template_program_run.specs.declared.documents.HeldDocument.{HeldDocument}
use Rattle.template_program_run.specs.declared.origins.Origin.{Origin as NamedOrigin}
use Rattle.template_program_run.specs.declared.origins.Origin.TheVariants.{File, Input}

abbrev pub origin_in : NamedOrigin → Origin
origin_in (File path form) = file path.now form
origin_in Input = input

-- its own bytes, or else those of the input
abbrev pub bytes_or : List ℕ → Option (Vec ℕ Global) → List ℕ
bytes_or given None = given
bytes_or given (Some bytes) = bytes.items

-- what a document is, and its bytes
abbrev pub held_as : List ℕ → HeldDocument → Form × List ℕ
held_as given d = (d.form, bytes_or given d.bytes)

abbrev pub all_held : Held → List (Form × List ℕ)
all_held held = map (held_as held.input.items) held.documents.items
