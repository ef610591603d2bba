-- What is left ends as all does.
use Rattle.std.proofs.Common.{ℕ, List, drop, string_bytes}
use Rattle.template_compiled.specs.Compiled.{Compiled}
use Rattle.template_compiled.specs.Sources.{read_by}
use Rattle.template_program_parts.specs.Context.{text_pairs}
use Rattle.template_program_check.specs.Checked.{Checks, ChecksFrom}
use Rattle.template_program_check.proofs.refusals.check.Given as goal

abbrev pub invariant-loop-name : goal.invariant-loop-name
invariant-loop-name l = (after : List ℕ) (all : List Compiled)
    → ChecksFrom (read_by l.config) (text_pairs (drop l.name-index l.templates)) (string_bytes l.found.lines) l.found.accepted.items after all
    → Checks (read_by l.config) (text_pairs l.templates) after all
