use Rattle.std.proofs.Common.{[], arith, refl, ap, ◌∙◌}
use Rattle.template_compiler_tree.specs.declared.span.Spanned.{Spanned}
use Rattle.template_compiler_tree_statements.specs.declared.statements.ForLoop.{ForLoop as ForLoopNode}
use Rattle.template_compiler_tree_statements.specs.declared.statements.IfCond.{IfCond as IfCondNode}
use Rattle.template_compiler_tree_parts.specs.Bodies.{other_in}
use Rattle.template_compiler_tree_parts.proofs.Deep.{deep_as, for_other_deep, if_other_deep}
use Rattle.template_compiler_tree_parts.proofs.BodyTrees.{call_tree, read_as}
use Rattle.template_compiler_tree_parts.proofs.Trees.{for_tree, if_tree}
use Rattle.template_compiler_tree_parts.proofs.bodies.other_of.Goals as goal

pub returns-in-ForLoop : goal.returns-in-ForLoop
returns-in-ForLoop c =
    let read = c.deref-in-ForLoop.ensures.value ∙ ap (λ (x : Spanned ForLoopNode). x.node.else_body.items) c.deref.ensures in
    record {
      body = read_as (λ t. other_in t) c.in-ForLoop.is (for_tree c.in-ForLoop.n) read refl;
      deep = deep_as c.in-ForLoop.is read (for_other_deep c.in-ForLoop.n);
    }

pub returns-in-IfCond : goal.returns-in-IfCond
returns-in-IfCond c =
    let read = c.deref-in-IfCond-2.ensures.value ∙ ap (λ (x : Spanned IfCondNode). x.node.false_body.items) c.deref-in-IfCond.ensures in
    record {
      body = read_as (λ t. other_in t) c.in-IfCond.is (if_tree c.in-IfCond.n) read refl;
      deep = deep_as c.in-IfCond.is read (if_other_deep c.in-IfCond.n);
    }

pub returns-in-CallBlock : goal.returns-in-CallBlock
returns-in-CallBlock c = record {
  body = read_as {read = []} {body = []} (λ t. other_in t) c.in-CallBlock.is (call_tree c.in-CallBlock.field-0) refl refl;
  deep = omega arith;
}
