-- What is left ends as all does.
use Rattle.std.proofs.Common.{drop, false}
use Rattle.template_compiler_tree_statements.specs.View.{assignments_in}
use Rattle.template_compiler_names.specs.Names.{place_from}
use Rattle.template_compiler_names.specs.declared.state.Names.{Names}
use Rattle.template_compiler_names.specs.Goes.{Goes}
use Rattle.template_compiler_names_statements.specs.Stores.{is_assigned}
use Rattle.template_compiler_names_statements.proofs.targets.use_assignments.Given as goal

abbrev pub invariant-loop-assignment : goal.invariant-loop-assignment
invariant-loop-assignment l = (c : Names) →
    Goes (λ places. place_from places (assignments_in (drop l.assignment-index l.assignments)) false)
    (λ name. is_assigned name (assignments_in (drop l.assignment-index l.assignments))) l.names c →
    Goes (λ places. place_from places (assignments_in l.assignments) false) (λ name. is_assigned name (assignments_in l.assignments)) l.initial.names c
