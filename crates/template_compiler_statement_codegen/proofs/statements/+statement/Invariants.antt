-- What is left of a body; a chain of `elif` goes on to smaller conditions. Bodies are smaller than their statement.
use Rattle.std.proofs.Common.{◌+◌, ◌*◌, ◌≤◌, max, true}
use Rattle.template_compiler_tree_statements.specs.declared.statements.Stmt.{size-Stmt}
use Rattle.template_compiler_walk.specs.Runnable.{IsRunnableStatement}
use Rattle.template_compiler_statement_codegen.specs.Listed.{body_deep, condition_deep, condition_of}
use Rattle.template_compiler_statement_codegen.proofs.Bodies.{RemainsFrom}
use Rattle.template_compiler_statement_codegen.proofs.Elifs.{RemainsAt}
use Rattle.template_compiler_statement_codegen.proofs.statements.+statement.Given as goal

abbrev pub decreases-compile_body : goal.decreases-compile_body
decreases-compile_body l = 8 * body_deep l.body.now + 2

abbrev pub decreases-compile_statement : goal.decreases-compile_statement
decreases-compile_statement l = 8 * size-Stmt l.statement.now + 1

abbrev pub decreases-compile_closed : goal.decreases-compile_closed
decreases-compile_closed l = 8 * body_deep l.body.now + 3

abbrev pub decreases-compile_with : goal.decreases-compile_with
decreases-compile_with l = 8 * body_deep l.body.now + 4

abbrev pub decreases-compile_set_block : goal.decreases-compile_set_block
decreases-compile_set_block l = 8 * body_deep l.body.now + 4

abbrev pub decreases-compile_filter_block : goal.decreases-compile_filter_block
decreases-compile_filter_block l = 8 * body_deep l.body.now + 4

abbrev pub decreases-compile_captured : goal.decreases-compile_captured
decreases-compile_captured l = 8 * body_deep l.body.now + 3

abbrev pub decreases-compile_auto_escape : goal.decreases-compile_auto_escape
decreases-compile_auto_escape l = 8 * body_deep l.body.now + 4

abbrev pub decreases-compile_macro : goal.decreases-compile_macro
decreases-compile_macro l = 8 * body_deep l.declared.now.body.items + 4

abbrev pub decreases-compile_call_block : goal.decreases-compile_call_block
decreases-compile_call_block l = 8 * body_deep l.declared.now.node.body.items + 6

abbrev pub decreases-compile_called : goal.decreases-compile_called
decreases-compile_called l = 8 * body_deep l.declared.now.node.body.items + 5

abbrev pub decreases-compile_with_caller : goal.decreases-compile_with_caller
decreases-compile_with_caller l = 8 * body_deep l.declared.now.node.body.items + 4

abbrev pub decreases-compile_declared : goal.decreases-compile_declared
decreases-compile_declared l = 8 * body_deep l.declared.now.body.items + 3

abbrev pub decreases-compile_loop : goal.decreases-compile_loop
decreases-compile_loop l = 8 * max (body_deep l.node.now.body.items) (body_deep l.node.now.else_body.items) + 4

abbrev pub decreases-compile_rounds : goal.decreases-compile_rounds
decreases-compile_rounds l = 8 * body_deep l.body.now + 3

abbrev pub decreases-compile_loop_end : goal.decreases-compile_loop_end
decreases-compile_loop_end l = 8 * body_deep l.otherwise.now + 3

abbrev pub decreases-compile_any : goal.decreases-compile_any
decreases-compile_any l = 8 * size-Stmt l.statement.now

abbrev pub decreases-compile_condition : goal.decreases-compile_condition
decreases-compile_condition l = 8 * condition_deep l.first.now.value.node + 6

abbrev pub decreases-compile_alone : goal.decreases-compile_alone
decreases-compile_alone l = 8 * condition_deep l.condition.now + 5

abbrev pub decreases-compile_elifs : goal.decreases-compile_elifs
decreases-compile_elifs l = 8 * condition_deep l.first.now.value.node + 5

abbrev pub decreases-compile_chain : goal.decreases-compile_chain
decreases-compile_chain l = 8 * condition_deep l.first.now.value.node + 4

abbrev pub decreases-compile_branch : goal.decreases-compile_branch
decreases-compile_branch l = 8 * condition_deep l.condition.now + 3

abbrev pub invariant-compile_body-loop-statement : goal.invariant-compile_body-loop-statement
invariant-compile_body-loop-statement l = RemainsFrom l.body l.statement-index l.initial.code l.code l.initial.round l.round

-- what is left of a chain
abbrev pub decreases-compile_chain-loop-end : goal.decreases-compile_chain-loop-end
decreases-compile_chain-loop-end l = condition_deep l.at.value.node

abbrev pub invariant-compile_chain-loop-end : goal.invariant-compile_chain-loop-end
invariant-compile_chain-loop-end l = record {
  chain : RemainsAt l.fn.first.value.node l.at.value.node l.ends.items l.initial.code l.code l.initial.round l.round;
  runs : IsRunnableStatement true (condition_of l.at.value.node);
  deep : condition_deep l.at.value.node ≤ condition_deep l.fn.first.value.node;
}
