-- What is left ends as all does.
use Rattle.std.proofs.Common.{◌≤◌, length, take, false}
use Rattle.template_compiler_names.specs.Names.{is_stored_in_one, place_of_arguments}
use Rattle.template_compiler_names.specs.declared.state.Names.{Names}
use Rattle.template_compiler_names.specs.Goes.{Goes}
use Rattle.template_compiler_names_statements.specs.Stores.{backwards}
use Rattle.template_compiler_names_statements.proofs.targets.bind_arguments.Given as goal

abbrev pub invariant-loop-at : goal.invariant-loop-at
invariant-loop-at l = record {
  within : l.at ≤ length l.arguments;
  given : l.given ≤ length l.defaults;
  ends : (c : Names) →
      Goes (λ places. place_of_arguments places (backwards (take l.at l.arguments)) (backwards (take l.given l.defaults)) false)
      (λ name. is_stored_in_one name (backwards (take l.at l.arguments))) l.names c →
      Goes (λ places. place_of_arguments places (backwards l.arguments) (backwards l.defaults) false)
      (λ name. is_stored_in_one name (backwards l.arguments)) l.initial.names c;
}

abbrev pub decreases-loop-at : goal.decreases-loop-at
decreases-loop-at l = l.at
