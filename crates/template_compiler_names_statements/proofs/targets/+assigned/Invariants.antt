-- What is left ends as all does.
use Rattle.std.proofs.Common.{drop}
use Rattle.template_compiler_tree.specs.View.{expressions_in}
use Rattle.template_compiler_names.specs.Names.{is_stored_in_one, place_in_targets}
use Rattle.template_compiler_names.specs.declared.state.Names.{Names}
use Rattle.template_compiler_names.specs.Goes.{Goes}
use Rattle.template_compiler_names_statements.proofs.targets.+assigned.Given as goal

abbrev pub invariant-assign_targets-loop-target : goal.invariant-assign_targets-loop-target
invariant-assign_targets-loop-target l = (c : Names) →
    Goes (λ places. place_in_targets places (expressions_in (drop l.target-index l.targets)))
    (λ name. is_stored_in_one name (expressions_in (drop l.target-index l.targets))) l.names c →
    Goes (λ places. place_in_targets places (expressions_in l.targets)) (λ name. is_stored_in_one name (expressions_in l.targets)) l.initial.names c
