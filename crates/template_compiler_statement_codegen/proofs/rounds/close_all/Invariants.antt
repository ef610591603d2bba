-- What is still open is closed behind what stands.
use Rattle.std.proofs.Common.{◌≡◌, ◌++◌, ◌≤◌, length, take}
use Rattle.template_compiler_code.specs.Listing.{code_in}
use Rattle.template_compiler_emission.specs.Puts.{Keeps}
use Rattle.template_compiler_statement_codegen.specs.Rounds.{closed_by}
use Rattle.template_compiler_statement_codegen.proofs.rounds.close_all.Given as goal

abbrev pub invariant-loop-left : goal.invariant-loop-left
invariant-loop-left l = record {
  within : l.left ≤ length l.closings;
  code : code_in l.code ++ closed_by (take l.left l.closings) ≡ code_in l.initial.code ++ closed_by l.closings;
  same : Keeps l.initial.code l.code;
}

abbrev pub decreases-loop-left : goal.decreases-loop-left
decreases-loop-left l = l.left
