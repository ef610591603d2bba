-- What is left ends as all does.
use Rattle.std.proofs.Common.{◌≤◌, length, take}
use Rattle.template_compiler_statement_codegen.specs.Macros.{backwards}
use Rattle.template_compiler_statement_codegen.proofs.Declaring.{Stores}
use Rattle.template_compiler_statement_codegen.proofs.macros.store_parameters.Given as goal

abbrev pub invariant-loop-left : goal.invariant-loop-left
invariant-loop-left l = record {
  within : l.left ≤ length l.arguments;
  given : l.given ≤ length l.defaults;
  stores : Stores (backwards l.arguments) (backwards l.defaults) (backwards (take l.left l.arguments)) (backwards (take l.given l.defaults)) l.initial.code l.code;
}

abbrev pub decreases-loop-left : goal.decreases-loop-left
decreases-loop-left l = l.left
