use Rattle.std.proofs.Common.{◌≡◌, ◌+◌, ◌≤◌, ◌++◌, All, map, reverse}
use Rattle.template_compiler_tree.specs.View.{expression_of}
use Rattle.template_compiler_tree.specs.declared.expressions.Expr.{size-Expr}
use Rattle.template_compiler_expression_codegen.specs.Coded.{coded_spine}
use Rattle.template_compiler_expression_codegen.proofs.CodedChains.{coded_along, left_deep}
use Rattle.template_compiler_expression_codegen.proofs.coded.coded_spine.Given as goal

abbrev pub decreases-loop-left_part : goal.decreases-loop-left_part
decreases-loop-left_part l = left_deep l.left_part

abbrev pub invariant-loop-left_part : goal.invariant-loop-left_part
invariant-loop-left_part l = record {
  nodes : coded_along l.left_part ++ map (λ n. expression_of n.now) (reverse l.passed.items) ≡ coded_spine (expression_of l.fn.expr);
  depth : All (λ n. size-Expr n.now ≤ size-Expr l.fn.expr) l.passed.items;
  deep : left_deep l.left_part ≤ size-Expr l.fn.expr + 1;
}
