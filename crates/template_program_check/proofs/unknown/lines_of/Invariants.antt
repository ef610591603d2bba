-- What is left ends as all does.
use Rattle.std.proofs.Common.{ℕ, List, [], drop, string_bytes}
use Rattle.std.specs.BTreeSet.{contains_text}
use Rattle.template_program_check.specs.Unknown.{TellsAll}
use Rattle.template_program_check.proofs.unknown.lines_of.Given as goal

abbrev pub invariant-loop-template : goal.invariant-loop-template
invariant-loop-template l = (after : List ℕ)
    → TellsAll (contains_text l.stored) (drop l.template-index l.templates) (string_bytes l.lines) after
    → TellsAll (contains_text l.stored) l.templates [] after
