use Rattle.std.proofs.Common.{◌≡◌, ◌≤◌, ◌++◌, All, map, reverse}
use Rattle.template_compiler_tree_parts.specs.Spine.{spine_of}
use Rattle.template_compiler_tree.specs.View.{expression_of}
use Rattle.template_compiler_tree.specs.declared.expressions.Expr.{size-Expr}
use Rattle.template_compiler_tree_parts.proofs.spines.spine.Given as goal

abbrev pub invariant-loop-passed : goal.invariant-loop-passed
invariant-loop-passed l = record {
  nodes : spine_of (expression_of l.at) ++ map (λ n. expression_of n.now) (reverse l.passed.items) ≡ spine_of (expression_of l.initial.expr);
  depth : All (λ n. size-Expr n.now ≤ size-Expr l.initial.expr) l.passed.items;
  here : size-Expr l.at ≤ size-Expr l.initial.expr;
}
