-- What is read by what stands next, each for the part that it names.
use Rattle.template_compiler_grammar.proofs.Pushes.{nodes_push, placed_assignments_push}
use Rattle.template_compiler_statement_parts.proofs.Again.{assign_again, paren_end_again}
use Rattle.template_compiler_statement_parts.proofs.ValuesPlaced.{no_assignment, no_default, some_assignment, some_parameters}

pub ruleset parameters_next = (paren_end_again, some_parameters)

pub ruleset parameter_next = (nodes_push, no_default)

pub ruleset assignments_next = (no_assignment, some_assignment)

pub ruleset assignment_next = (assign_again, placed_assignments_push)
