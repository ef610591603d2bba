-- What is left ends as all does.
use Rattle.std.proofs.Common.{ℕ, List, drop, string_bytes}
use Rattle.std.specs.BTreeSet.{contains_text}
use Rattle.template_compiler_code.specs.Listing.{code_in}
use Rattle.template_program_check.specs.Unknown.{TellsCode}
use Rattle.template_program_check.proofs.unknown.tell_code.Given as goal

abbrev pub invariant-loop-index : goal.invariant-loop-index
invariant-loop-index l = (after : List ℕ)
    → TellsCode (contains_text l.stored) (drop l.index (code_in l.code)) (string_bytes l.lines) after
    → TellsCode (contains_text l.stored) (code_in l.code) (string_bytes l.initial.lines) after
