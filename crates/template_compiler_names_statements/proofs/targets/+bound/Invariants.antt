-- What is left ends as all does.
use Rattle.std.proofs.Common.{drop}
use Rattle.template_compiler_tree.specs.View.{expressions_in}
use Rattle.template_compiler_names.specs.Names.{is_stored_in_one}
use Rattle.template_compiler_names.specs.declared.state.Names.{Names}
use Rattle.template_compiler_names.specs.Goes.{Goes, no_place}
use Rattle.template_compiler_names_statements.proofs.targets.+bound.Given as goal

abbrev pub invariant-bind_targets-loop-target : goal.invariant-bind_targets-loop-target
invariant-bind_targets-loop-target l = (c : Names) →
    Goes no_place (λ name. is_stored_in_one name (expressions_in (drop l.target-index l.targets))) l.names c →
    Goes no_place (λ name. is_stored_in_one name (expressions_in l.targets)) l.initial.names c
