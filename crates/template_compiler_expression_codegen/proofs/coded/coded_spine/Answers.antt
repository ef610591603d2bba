use Rattle.std.proofs.Common.{◌≡◌, ◌+◌, ◌≤◌, Option, Bor, ap, arith}
use Rattle.template_compiler_tree.specs.declared.expressions.Expr.{Expr, size-Expr}
use Rattle.template_compiler_tree_parts.proofs.Chains.{passed_within}
use Rattle.template_compiler_expression_codegen.proofs.CodedChains.{coded_more, left_deep, left_within}
use Rattle.template_compiler_expression_codegen.proofs.coded.coded_spine.Goals as goal

pub loop-left_part-preserved : goal.loop-left_part-preserved
loop-left_part-preserved c =
    let part = c.in-Some.part in
    let deep : left_deep c.loop-left_part.left_part ≡ size-Expr part.now + 1 = ap (λ (o : Option (Bor Expr)). left_deep o) c.in-Some.is in
    let inside : left_deep c.loop-left_part.left_part ≤ size-Expr c.args.expr.now + 1 = c.loop-left_part.invariant.deep in
    let here : size-Expr part.now ≤ size-Expr c.args.expr.now = omega (arith, deep, inside) in
    record {
      nodes = coded_more part c.loop-left_part.left_part c.coded_left-left_part.result c.loop-left_part.passed.items c.push.new.self.items _
          c.in-Some.is c.in_ok-push.ensures.items c.coded_left-left_part.ensures.left c.loop-left_part.invariant.nodes;
      depth = passed_within c.args.expr.now c.loop-left_part.passed.items c.push.new.self.items part c.in_ok-push.ensures.items here
          c.loop-left_part.invariant.depth;
      deep = left_within c.coded_left-left_part.result (size-Expr part.now) (size-Expr c.args.expr.now) c.coded_left-left_part.ensures.smaller here;
    }
