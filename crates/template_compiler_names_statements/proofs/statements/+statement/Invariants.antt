-- What is left ends as all does.
use Rattle.std.proofs.Common.{◌+◌, ◌*◌, ◌≤◌, drop}
use Rattle.template_compiler_tree_statements.specs.declared.statements.Stmt.{size-Stmt, ForLoop, IfCond, WithBlock}
use Rattle.template_compiler_tree_parts.specs.Bodies.{body_deep}
use Rattle.template_compiler_tree_parts.specs.Listed.{statements_in}
use Rattle.template_compiler_names.specs.Names.{place_by, place_within}
use Rattle.template_compiler_names.specs.declared.state.Names.{Names}
use Rattle.template_compiler_names_statements.specs.Choices.{choice_of}
use Rattle.template_compiler_names.specs.Among.{nothing}
use Rattle.template_compiler_names.specs.Goes.{Goes}
use Rattle.template_compiler_names_statements.specs.Stores.{is_stored_among}
use Rattle.template_compiler_names_statements.proofs.statements.+statement.Given as goal

abbrev pub decreases-use_statement : goal.decreases-use_statement
decreases-use_statement l = 8 * size-Stmt l.statement.now + 6

abbrev pub decreases-use_other : goal.decreases-use_other
decreases-use_other l = 8 * size-Stmt l.statement.now + 5

abbrev pub decreases-use_chain : goal.decreases-use_chain
decreases-use_chain l = 8 * size-Stmt (IfCond l.first.now) + 4

abbrev pub decreases-use_loop : goal.decreases-use_loop
decreases-use_loop l = 8 * size-Stmt (ForLoop l.node.now) + 4

abbrev pub decreases-use_with : goal.decreases-use_with
decreases-use_with l = 8 * size-Stmt (WithBlock l.node.now) + 4

abbrev pub decreases-use_statements : goal.decreases-use_statements
decreases-use_statements l = 8 * body_deep l.body.now

abbrev pub decreases-use_region : goal.decreases-use_region
decreases-use_region l = 8 * body_deep l.body.now + 1

abbrev pub decreases-use_macro : goal.decreases-use_macro
decreases-use_macro l = 8 * body_deep l.body.now + 1

abbrev pub invariant-use_statements-loop-statement : goal.invariant-use_statements-loop-statement
invariant-use_statements-loop-statement l = (c : Names) →
    Goes (λ places. place_within places (statements_in (drop l.statement-index l.body)))
    (λ name. is_stored_among name (statements_in (drop l.statement-index l.body))) l.names c →
    Goes (λ places. place_within places (statements_in l.body)) (λ name. is_stored_among name (statements_in l.body)) l.initial.names c

abbrev pub invariant-use_chain-loop-names : goal.invariant-use_chain-loop-names
invariant-use_chain-loop-names l = record {
  ends : (c : Names) → Goes (λ places. place_by places (choice_of l.at)) nothing l.names c →
      Goes (λ places. place_by places (choice_of l.fn.first)) nothing l.initial.names c;
  deep : size-Stmt (IfCond l.at) ≤ size-Stmt (IfCond l.fn.first);
}

abbrev pub decreases-use_chain-loop-names : goal.decreases-use_chain-loop-names
decreases-use_chain-loop-names l = size-Stmt (IfCond l.at)
