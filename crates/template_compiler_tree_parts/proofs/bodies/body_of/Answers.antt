use Rattle.std.proofs.Common.{refl, ap, ◌∙◌}
use Rattle.template_compiler_tree.specs.declared.span.Spanned.{Spanned}
use Rattle.template_compiler_tree_statements.specs.declared.statements.AutoEscape.{AutoEscape as AutoEscapeNode}
use Rattle.template_compiler_tree_statements.specs.declared.statements.Block.{Block as BlockNode}
use Rattle.template_compiler_tree_statements.specs.declared.statements.CallBlock.{CallBlock as CallBlockNode, out-CallBlock}
use Rattle.template_compiler_tree_statements.specs.declared.statements.FilterBlock.{FilterBlock as FilterBlockNode}
use Rattle.template_compiler_tree_statements.specs.declared.statements.ForLoop.{ForLoop as ForLoopNode}
use Rattle.template_compiler_tree_statements.specs.declared.statements.IfCond.{IfCond as IfCondNode}
use Rattle.template_compiler_tree_statements.specs.declared.statements.Macro.{Macro as MacroNode}
use Rattle.template_compiler_tree_statements.specs.declared.statements.SetBlock.{SetBlock as SetBlockNode}
use Rattle.template_compiler_tree_statements.specs.declared.statements.WithBlock.{WithBlock as WithBlockNode}
use Rattle.template_compiler_tree_parts.specs.Bodies.{body_in}
use Rattle.template_compiler_tree_parts.proofs.Deep.{call_deep, deep_as, whole_deep, for_deep, if_deep, with_deep, set_block_deep, escape_deep, filter_block_deep, block_deep, macro_deep}
use Rattle.template_compiler_tree_parts.proofs.BodyTrees.{call_tree, read_as, set_block_tree, filter_block_tree, block_tree, macro_tree}
use Rattle.template_compiler_tree_parts.proofs.Trees.{whole_tree, for_tree, if_tree, with_tree, escape_tree}
use Rattle.template_compiler_tree_parts.proofs.bodies.body_of.Goals as goal

pub returns-in-Template : goal.returns-in-Template
returns-in-Template c = record {
  body = read_as (λ t. body_in t) c.in-Template.is (whole_tree c.in-Template.n) c.deref.ensures.value refl;
  deep = deep_as c.in-Template.is c.deref.ensures.value (whole_deep c.in-Template.n);
}

pub returns-in-ForLoop : goal.returns-in-ForLoop
returns-in-ForLoop c =
    let read = c.deref-in-ForLoop-2.ensures.value ∙ ap (λ (x : Spanned ForLoopNode). x.node.body.items) c.deref-in-ForLoop.ensures in
    record {
      body = read_as (λ t. body_in t) c.in-ForLoop.is (for_tree c.in-ForLoop.n) read refl;
      deep = deep_as c.in-ForLoop.is read (for_deep c.in-ForLoop.n);
    }

pub returns-in-IfCond : goal.returns-in-IfCond
returns-in-IfCond c =
    let read = c.deref-in-IfCond-2.ensures.value ∙ ap (λ (x : Spanned IfCondNode). x.node.true_body.items) c.deref-in-IfCond.ensures in
    record {
      body = read_as (λ t. body_in t) c.in-IfCond.is (if_tree c.in-IfCond.n) read refl;
      deep = deep_as c.in-IfCond.is read (if_deep c.in-IfCond.n);
    }

pub returns-in-WithBlock : goal.returns-in-WithBlock
returns-in-WithBlock c =
    let read = c.deref-in-WithBlock-2.ensures.value ∙ ap (λ (x : Spanned WithBlockNode). x.node.body.items) c.deref-in-WithBlock.ensures in
    record {
      body = read_as (λ t. body_in t) c.in-WithBlock.is (with_tree c.in-WithBlock.n) read refl;
      deep = deep_as c.in-WithBlock.is read (with_deep c.in-WithBlock.n);
    }

pub returns-in-SetBlock : goal.returns-in-SetBlock
returns-in-SetBlock c =
    let read = c.deref-in-SetBlock-2.ensures.value ∙ ap (λ (x : Spanned SetBlockNode). x.node.body.items) c.deref-in-SetBlock.ensures in
    record {
      body = read_as (λ t. body_in t) c.in-SetBlock.is (set_block_tree c.in-SetBlock.n) read refl;
      deep = deep_as c.in-SetBlock.is read (set_block_deep c.in-SetBlock.n);
    }

pub returns-in-AutoEscape : goal.returns-in-AutoEscape
returns-in-AutoEscape c =
    let read = c.deref-in-AutoEscape-2.ensures.value ∙ ap (λ (x : Spanned AutoEscapeNode). x.node.body.items) c.deref-in-AutoEscape.ensures in
    record {
      body = read_as (λ t. body_in t) c.in-AutoEscape.is (escape_tree c.in-AutoEscape.n) read refl;
      deep = deep_as c.in-AutoEscape.is read (escape_deep c.in-AutoEscape.n);
    }

pub returns-in-FilterBlock : goal.returns-in-FilterBlock
returns-in-FilterBlock c =
    let read = c.deref-in-FilterBlock-2.ensures.value ∙ ap (λ (x : Spanned FilterBlockNode). x.node.body.items) c.deref-in-FilterBlock.ensures in
    record {
      body = read_as (λ t. body_in t) c.in-FilterBlock.is (filter_block_tree c.in-FilterBlock.n) read refl;
      deep = deep_as c.in-FilterBlock.is read (filter_block_deep c.in-FilterBlock.n);
    }

pub returns-in-Block : goal.returns-in-Block
returns-in-Block c =
    let read = c.deref-in-Block-2.ensures.value ∙ ap (λ (x : Spanned BlockNode). x.node.body.items) c.deref-in-Block.ensures in
    record {
      body = read_as (λ t. body_in t) c.in-Block.is (block_tree c.in-Block.n) read refl;
      deep = deep_as c.in-Block.is read (block_deep c.in-Block.n);
    }

pub returns-in-Macro : goal.returns-in-Macro
returns-in-Macro c =
    let read = c.deref-in-Macro-2.ensures.value ∙ ap (λ (x : Spanned MacroNode). x.node.body.items) c.deref-in-Macro.ensures in
    record {
      body = read_as (λ t. body_in t) c.in-Macro.is (macro_tree c.in-Macro.n) read refl;
      deep = deep_as c.in-Macro.is read (macro_deep c.in-Macro.n);
    }

pub returns-in-CallBlock : goal.returns-in-CallBlock
returns-in-CallBlock c =
    let declared = ap (λ (x : Spanned CallBlockNode). (out-CallBlock x.node).macro_decl.value) c.deref-in-CallBlock.ensures in
    let read = c.deref-in-CallBlock-3.ensures.value ∙ ap (λ (x : Spanned MacroNode). x.node.body.items) (c.deref-in-CallBlock-2.ensures ∙ declared) in
    record {
      body = read_as (λ t. body_in t) c.in-CallBlock.is (call_tree c.in-CallBlock.n) read refl;
      deep = deep_as c.in-CallBlock.is read (call_deep c.in-CallBlock.n);
    }
