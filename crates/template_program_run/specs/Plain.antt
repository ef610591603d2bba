-- Renders of a main template in which no marker starts.
use Rattle.std.specs.Prelude.{ℕ, List, Option}
use Rattle.std.specs.Io.KnownBytes.{Appends}
use Rattle.template_program_parts.specs.declared.outcome.Outcome.{Outcome}
use Rattle.template_program_parts.specs.declared.outcome.Outcome.TheVariants.{Done}
use Rattle.template_program_parts.specs.declared.command.Command.{Command}
use Rattle.template_program_parts.specs.declared.command.Command.TheVariants as asked

-- where a render is done, these bytes were written
abbrev pub WritesOnDone : Option (List ℕ) → Option (List ℕ) → List ℕ → Outcome → Type 0
WritesOnDone before after bytes Done = Appends before after bytes
WritesOnDone before after bytes _ = Unit {0}

abbrev pub WritesOnRender : Command → Option (List ℕ) → Option (List ℕ) → List ℕ → Outcome → Type 0
WritesOnRender asked.Render before after bytes outcome = WritesOnDone before after bytes outcome
WritesOnRender asked.Names before after bytes outcome = Unit {0}
