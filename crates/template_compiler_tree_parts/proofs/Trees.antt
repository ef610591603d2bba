-- The trees of nodes, from the parts that a node holds.
use Rattle.std.proofs.Common.{◌≡◌, Box, Global, rules}
use Rattle.template_compiler_tree.specs.Tree.{chain, conditional, list_literal, map_literal, slice, tuple_literal, template, for_loop, if_condition, with_block, auto_escape}
use Rattle.template_compiler_tree.specs.View.{chain_of, expression_of, expressions_in, links_in, optional_in}
use Rattle.template_compiler_tree_statements.specs.View.{assignments_in, statement_of}
use Rattle.template_compiler_tree.specs.declared.span.Spanned.{Spanned}
use Rattle.template_compiler_tree.specs.declared.expressions.Compare.{Compare, Compare' as compared, out-Compare}
use Rattle.template_compiler_tree.specs.declared.expressions.Expr.{IfExpr, List, Map, Slice, Tuple, the_lemmas}
use Rattle.template_compiler_tree.specs.declared.expressions.IfExpr.{IfExpr as IfExprNode}
use Rattle.template_compiler_tree.specs.declared.expressions.List.{List as ListNode}
use Rattle.template_compiler_tree.specs.declared.expressions.Map.{Map as MapNode}
use Rattle.template_compiler_tree.specs.declared.expressions.Slice.{Slice as SliceNode}
use Rattle.template_compiler_tree.specs.declared.expressions.Tuple.{Tuple as TupleNode}
use Rattle.template_compiler_tree_statements.specs.declared.statements.AutoEscape.{AutoEscape as AutoEscapeNode}
use Rattle.template_compiler_tree_statements.specs.declared.statements.ForLoop.{ForLoop as ForLoopNode}
use Rattle.template_compiler_tree_statements.specs.declared.statements.IfCond.{IfCond as IfCondNode}
use Rattle.template_compiler_tree_statements.specs.declared.statements.WithBlock.{WithBlock as WithBlockNode}
use Rattle.template_compiler_tree_statements.specs.declared.statements.Template.{Template as TemplateNode}
use Rattle.template_compiler_tree_statements.specs.declared.statements.Stmt.{Template, ForLoop, IfCond, WithBlock, AutoEscape, the_lemmas as statement_lemmas}
use Rattle.template_compiler_tree.proofs.Rows.{expressions_row, links_row}
use Rattle.template_compiler_tree_parts.specs.Listed.{statements_in}
use Rattle.template_compiler_tree_parts.proofs.Rows.{statements_row}

pub slice_tree : (n : Box (Spanned SliceNode) Global) → expression_of (Slice n)
    ≡ slice (expression_of n.value.node.expr) (optional_in n.value.node.start) (optional_in n.value.node.stop) (optional_in n.value.node.step)
slice_tree n = search (rules, the_lemmas)

pub choice_tree : (n : Box (Spanned IfExprNode) Global) → expression_of (IfExpr n)
    ≡ conditional (expression_of n.value.node.test_expr) (expression_of n.value.node.true_expr) (optional_in n.value.node.false_expr)
choice_tree n = search (rules, the_lemmas)

pub list_tree : (n : Box (Spanned ListNode) Global) → expression_of (List n) ≡ list_literal (expressions_in n.value.node.items.items)
list_tree n = search (rules, the_lemmas, expressions_row)

pub tuple_tree : (n : Box (Spanned TupleNode) Global) → expression_of (Tuple n) ≡ tuple_literal (expressions_in n.value.node.items.items)
tuple_tree n = search (rules, the_lemmas, expressions_row)

pub map_tree : (n : Box (Spanned MapNode) Global) → expression_of (Map n)
    ≡ map_literal (expressions_in n.value.node.keys.items) (expressions_in n.value.node.values.items)
map_tree n = search (rules, the_lemmas, expressions_row)

pub chain_tree : (c : Compare) → chain_of c ≡ chain (expression_of (out-Compare c).expr) (links_in (out-Compare c).ops.items)
chain_tree (compared expr shape ops) = search (rules, the_lemmas, links_row)

pub whole_tree : (n : Spanned TemplateNode) → statement_of (Template n) ≡ template (statements_in n.node.children.items)
whole_tree n = search (rules, statement_lemmas, statements_row)

pub for_tree : (n : Box (Spanned ForLoopNode) Global) → statement_of (ForLoop n)
    ≡ for_loop (expression_of n.value.node.target) (expression_of n.value.node.iter) (optional_in n.value.node.filter_expr)
    n.value.node.recursive (statements_in n.value.node.body.items) (statements_in n.value.node.else_body.items)
for_tree n = search (rules, statement_lemmas, statements_row)

pub if_tree : (n : Box (Spanned IfCondNode) Global) → statement_of (IfCond n)
    ≡ if_condition (expression_of n.value.node.expr) (statements_in n.value.node.true_body.items) (statements_in n.value.node.false_body.items)
if_tree n = search (rules, statement_lemmas, statements_row)

pub with_tree : (n : Box (Spanned WithBlockNode) Global) → statement_of (WithBlock n)
    ≡ with_block (assignments_in n.value.node.assignments.items) (statements_in n.value.node.body.items)
with_tree n = search (rules, statement_lemmas, statements_row)

pub escape_tree : (n : Box (Spanned AutoEscapeNode) Global) → statement_of (AutoEscape n)
    ≡ auto_escape (expression_of n.value.node.enabled) (statements_in n.value.node.body.items)
escape_tree n = search (rules, statement_lemmas, statements_row)
