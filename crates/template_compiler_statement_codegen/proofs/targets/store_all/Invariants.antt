-- The assignments so far.
use Rattle.std.proofs.Common.{take}
use Rattle.template_compiler_tree_statements.specs.View.{assignments_in}
use Rattle.template_compiler_codegen.specs.Statements.{assignments_code}
use Rattle.template_compiler_emission.specs.Puts.{Puts}
use Rattle.template_compiler_statement_codegen.proofs.targets.store_all.Given as goal

abbrev pub invariant-loop-target : goal.invariant-loop-target
invariant-loop-target l = Puts (assignments_code (assignments_in (take l.target-index l.assignments))) l.initial.code l.code
