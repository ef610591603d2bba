use Rattle.std.proofs.Common.{◌≡◌, ◌≤◌, length, get_or, vec_len, ◌||◌, not, ◌&&◌, codes, List as Items, Option, arith, refl, sym, ap, ◌∙◌}
use Rattle.std.specs.Prelude.{false}
use Rattle.template_compiler_tree.specs.View.{arguments_in, expression_of, expressions_in, optional_in}
use Rattle.template_compiler_tree_statements.specs.View.{assignments_in, imports_in, statement_of}
use Rattle.template_compiler_tree_statements.specs.declared.statements.IfCond.{IfCond as IfCondNode}
use Rattle.template_compiler_tree_statements.specs.declared.statements.Stmt.{Stmt, size-Stmt, ForLoop, IfCond, WithBlock}
use Rattle.template_compiler_tree.specs.declared.expressions.Expr.{Expr}
use Rattle.template_compiler_tree.specs.Tree.{Statement, template, set_block, auto_escape, filter_block, block, macro, call_block}
use Rattle.template_compiler_tree_parts.specs.Bodies.{body_deep}
use Rattle.template_compiler_tree_parts.specs.Listed.{statements_in}
use Rattle.template_compiler_tree_parts.proofs.Deep.{deep_as, deep_at, whole_deep, for_deep, for_other_deep, if_deep, if_other_deep, with_deep, set_block_deep, escape_deep, filter_block_deep, block_deep, macro_deep, call_deep}
use Rattle.template_compiler_tree_parts.proofs.BodyTrees.{set_block_tree, filter_block_tree, block_tree, macro_tree, call_tree}
use Rattle.template_compiler_tree_parts.proofs.Trees.{whole_tree, for_tree, if_tree, with_tree, escape_tree}
use Rattle.template_compiler_tree.specs.declared.calls.Call.{Call as CallNode}
use Rattle.template_compiler_tree_statements.specs.declared.statements.AutoEscape.{AutoEscape as AutoEscapeNode}
use Rattle.template_compiler_tree_statements.specs.declared.statements.Block.{Block as BlockNode}
use Rattle.template_compiler_tree_statements.specs.declared.statements.CallBlock.{CallBlock as CallBlockNode, out-CallBlock}
use Rattle.template_compiler_tree_statements.specs.declared.statements.Extends.{Extends as ExtendsNode}
use Rattle.template_compiler_tree_statements.specs.declared.statements.FilterBlock.{FilterBlock as FilterBlockNode}
use Rattle.template_compiler_tree_statements.specs.declared.statements.FromImport.{FromImport as FromImportNode}
use Rattle.template_compiler_tree_statements.specs.declared.statements.Import.{Import as ImportNode}
use Rattle.template_compiler_tree_statements.specs.declared.statements.Include.{Include as IncludeNode}
use Rattle.template_compiler_tree_statements.specs.declared.statements.Set.{Set as SetNode}
use Rattle.template_compiler_tree_statements.specs.declared.statements.ForLoop.{ForLoop as ForLoopNode}
use Rattle.template_compiler_tree_statements.specs.declared.statements.Macro.{Macro as MacroNode}
use Rattle.template_compiler_tree_statements.specs.declared.statements.SetBlock.{SetBlock as SetBlockNode}
use Rattle.template_compiler_tree.specs.declared.span.Spanned.{Spanned}
use Rattle.template_compiler_tree_statements.specs.declared.statements.WithBlock.{WithBlock as WithBlockNode}
use Rattle.template_compiler_names_statements.proofs.Bodies.{at_arm, at_node, at_none, at_tree, empty_region, macro_reads}
use Rattle.template_compiler_names.specs.Names.{is_imported, is_stored_by, is_stored_in, place_by, place_of_macro, place_in_target, place_from, place_within, place_if_given, place_in, place_in_arguments}
use Rattle.template_compiler_names_statements.specs.Stores.{is_assigned, is_stored_among}
use Rattle.template_compiler_names.specs.Among.{just}
use Rattle.template_compiler_names.proofs.Laws.{goes_as, goes_end, goes_inside, goes_item, goes_then, goes_then_on, or_assoc, or_false, uses_as, uses_then, uses_then_on}
use Rattle.template_compiler_names_statements.proofs.Deep.{body_falls, part_falls, part_falls_within, region_falls, node_falls, known_node_falls, item_falls, inside_falls}
use Rattle.template_compiler_names_statements.proofs.Storing.{used_from}
use Rattle.template_compiler_names_statements.proofs.Walking.{loop_uses, chain_end, chain_goes, else_below, macro_uses}
use Rattle.template_compiler_names_statements.proofs.statements.+statement.Goals as goal

pub use_statements-loop-statement-preserved : goal.use_statements-loop-statement-preserved
use_statements-loop-statement-preserved t c =
    goes_item (λ (s : Stmt) places. place_by places (statement_of s)) (λ (s : Stmt) name. is_stored_by name (statement_of s))
    (λ (ss : Items Stmt) places. place_within places (statements_in ss)) (λ (ss : Items Stmt) name. is_stored_among name (statements_in ss))
    (λ s ss q. refl) (λ s ss q. refl)
    c.args.body.now c.loop-statement.statement-index c.statement-item.result c.loop-statement.names c.use_statement.new.names (omega arith)
    c.statement-item.is c.loop-statement.invariant c.in_ok-use_statement.ensures

pub use_statements-returns : goal.use_statements-returns
use_statements-returns t c =
    goes_end (λ (ss : Items Stmt) places. place_within places (statements_in ss)) (λ (ss : Items Stmt) name. is_stored_among name (statements_in ss))
    (λ q. refl) (λ q. refl) c.args.body.now c.loop-statement.statement-index c.loop-statement.names c.loop-statement-test.false c.loop-statement.invariant

pub use_region-returns-then-is_empty : goal.use_region-returns-then-is_empty
use_region-returns-then-is_empty t c = empty_region c.args.names.now c.args.body.now (sym c.is_empty.ensures ∙ c.if-is_empty.true)

pub use_region-returns : goal.use_region-returns
use_region-returns t c =
    goes_inside c.args.names.now c.open.new.self c.use_statements.new.names c.close.new.self c.in_ok-around.around c.in_ok-around.ensures c.in_ok-use_statements.ensures c.close.ensures

pub use_macro-returns : goal.use_macro-returns
use_macro-returns t c =
    uses_as (λ q. macro_uses q c.args.arguments.now c.args.defaults.now (place_within q (statements_in c.args.body.now)))
    (goes_inside c.args.names.now c.open.new.self c.use_statements.new.names c.close.new.self c.in_ok-around.around c.in_ok-around.ensures
    (goes_then c.open.new.self c.bind_arguments.new.names c.use_statements.new.names
    (goes_then c.open.new.self c.store.new.self c.bind_arguments.new.names c.in_ok-store.ensures c.in_ok-bind_arguments.ensures)
    c.in_ok-use_statements.ensures) c.close.ensures)

pub use_chain-returns-then-len-ne1 : goal.use_chain-returns-then-len-ne1
use_chain-returns-then-len-ne1 t c =
    let test = uses_as (λ q. ap (λ (x : Spanned IfCondNode). place_in q (expression_of x.node.expr)) c.deref.ensures) c.in_ok-use_expression.ensures in
    let read = c.deref-in-loop-names.ensures.value ∙ ap (λ (x : Spanned IfCondNode). x.node.true_body.items) c.deref.ensures in
    let body = uses_as (λ q. ap (λ (ss : Items Stmt). place_within q (statements_in ss)) read) c.in_ok-use_region.ensures in
    let tested = uses_then c.loop-names.names c.use_expression.new.names c.use_region.new.names test body in
    let other = c.deref-then-len-ne1.ensures.value ∙ ap (λ (x : Spanned IfCondNode). x.node.false_body.items) c.deref.ensures in
    chain_end c.loop-names.at.now c.deref-then-len-ne1.result.now c.loop-names.names c.use_region.new.names c.use_region-then-len-ne1.new.names
    c.use_region-then-len-ne1.result c.loop-names.invariant.ends tested other c.use_region-then-len-ne1.ensures

pub use_chain-returns-in_default : goal.use_chain-returns-in_default
use_chain-returns-in_default t c =
    let test = uses_as (λ q. ap (λ (x : Spanned IfCondNode). place_in q (expression_of x.node.expr)) c.deref.ensures) c.in_ok-use_expression.ensures in
    let read = c.deref-in-loop-names.ensures.value ∙ ap (λ (x : Spanned IfCondNode). x.node.true_body.items) c.deref.ensures in
    let body = uses_as (λ q. ap (λ (ss : Items Stmt). place_within q (statements_in ss)) read) c.in_ok-use_region.ensures in
    let tested = uses_then c.loop-names.names c.use_expression.new.names c.use_region.new.names test body in
    let other = c.deref-in_default.ensures.value ∙ ap (λ (x : Spanned IfCondNode). x.node.false_body.items) c.deref.ensures in
    chain_end c.loop-names.at.now c.deref-in_default.result.now c.loop-names.names c.use_region.new.names c.use_region-in_default.new.names
    c.use_region-in_default.result c.loop-names.invariant.ends tested other c.use_region-in_default.ensures

pub use_chain-loop-names-preserved : goal.use_chain-loop-names-preserved
use_chain-loop-names-preserved t c =
    let n = c.loop-names.at.now in
    let items = n.value.node.false_body.items in
    let test = uses_as (λ q. ap (λ (x : Spanned IfCondNode). place_in q (expression_of x.node.expr)) c.deref.ensures) c.in_ok-use_expression.ensures in
    let read = c.deref-in-loop-names.ensures.value ∙ ap (λ (x : Spanned IfCondNode). x.node.true_body.items) c.deref.ensures in
    let body = uses_as (λ q. ap (λ (ss : Items Stmt). place_within q (statements_in ss)) read) c.in_ok-use_region.ensures in
    let tested = uses_then c.loop-names.names c.use_expression.new.names c.use_region.new.names test body in
    let shared = ap (λ (x : Spanned IfCondNode). vec_len x.node.false_body) c.deref.ensures in
    let counted = c.len.ensures in
    let alone = c.if-len-ne1.false in
    let one : length items ≡ 1 = omega (arith, shared, counted, alone, n.value.node.false_body.ok.0) in
    let at : c.index.result.now ≡ get_or items 0 c.index.result.now =
    c.index.ensures ∙ ap (λ (x : Spanned IfCondNode). get_or x.node.false_body.items 0 c.index.result.now) c.deref.ensures in
    let less = else_below n c.in-IfCond.n c.index.result.now one at c.in-IfCond.is in
    let deep : size-Stmt (IfCond n) ≤ size-Stmt (IfCond c.args.first.now) = c.loop-names.invariant.deep in
    record {
      ends = chain_goes n c.in-IfCond.n c.index.result.now c.loop-names.names c.use_region.new.names one at c.in-IfCond.is c.loop-names.invariant.ends tested;
      deep = omega (arith, less, deep);
    }

pub use_chain-loop-names-init : goal.use_chain-loop-names-init
use_chain-loop-names-init t c = record {
  ends = λ d goes. goes;
  deep = omega arith;
}

pub use_chain-loop-names-smaller : goal.use_chain-loop-names-smaller
use_chain-loop-names-smaller t c =
    let n = c.loop-names.at.now in
    let items = n.value.node.false_body.items in
    let shared = ap (λ (x : Spanned IfCondNode). vec_len x.node.false_body) c.deref.ensures in
    let counted = c.len.ensures in
    let alone = c.if-len-ne1.false in
    let one : length items ≡ 1 = omega (arith, shared, counted, alone, n.value.node.false_body.ok.0) in
    let at : c.index.result.now ≡ get_or items 0 c.index.result.now =
    c.index.ensures ∙ ap (λ (x : Spanned IfCondNode). get_or x.node.false_body.items 0 c.index.result.now) c.deref.ensures in
    else_below n c.in-IfCond.n c.index.result.now one at c.in-IfCond.is

pub use_other-returns-in-Template : goal.use_other-returns-in-Template
use_other-returns-in-Template t c =
    let tree = ap (λ (x : Stmt). statement_of x) c.in-Template.is ∙ whole_tree c.in-Template.n in
    at_tree c.args.statement.now (template (statements_in c.in-Template.n.node.children.items)) c.args.names.now c.use_region.new.names c.use_region.result tree
    (λ q. ap (λ (ss : Items Stmt). place_within q (statements_in ss)) c.deref.ensures.value) (λ q. refl) c.use_region.ensures

pub use_other-returns-in-ForLoop : goal.use_other-returns-in-ForLoop
use_other-returns-in-ForLoop t c =
    at_node c.args.names.now c.use_loop.new.names c.use_loop.result c.in-ForLoop.is (λ q. sym (ap (λ (x : Statement). is_stored_by q x) (for_tree c.in-ForLoop.n)))
    c.use_loop.ensures

pub use_other-returns-in-IfCond : goal.use_other-returns-in-IfCond
use_other-returns-in-IfCond t c =
    at_node c.args.names.now c.use_chain.new.names c.use_chain.result c.in-IfCond.is (λ q. sym (ap (λ (x : Statement). is_stored_by q x) (if_tree c.in-IfCond.n)))
    c.use_chain.ensures

pub use_other-returns-in-WithBlock : goal.use_other-returns-in-WithBlock
use_other-returns-in-WithBlock t c =
    at_node c.args.names.now c.use_with.new.names c.use_with.result c.in-WithBlock.is (λ q. sym (ap (λ (x : Statement). is_stored_by q x) (with_tree c.in-WithBlock.n)))
    c.use_with.ensures

pub use_loop-returns : goal.use_loop-returns
use_loop-returns t c =
    let n = c.args.node.now in
    let v = n.value.node in
    let iter = uses_as (λ q. ap (λ (x : Spanned ForLoopNode). place_in q (expression_of x.node.iter)) c.deref.ensures) c.in_ok-use_expression.ensures in
    let head = goes_as
    (λ q.
    ap (λ (x : Spanned ForLoopNode). place_in_target q (expression_of x.node.target) || not (is_stored_in q.name (expression_of x.node.target)) && place_if_given q (optional_in x.node.filter_expr))
    c.deref-2.ensures)
    (λ q. ap (λ (x : Spanned ForLoopNode). is_stored_in q (expression_of x.node.target) || just (codes "loop") q) c.deref-2.ensures) c.in_ok-begin_loop.ensures in
    let read = c.deref-4.ensures.value ∙ ap (λ (x : Spanned ForLoopNode). x.node.body.items) c.deref-3.ensures in
    let body = goes_as (λ q. ap (λ (ss : Items Stmt). place_within q (statements_in ss)) read) (λ q. ap (λ (ss : Items Stmt). is_stored_among q (statements_in ss)) read)
    c.in_ok-use_statements.ensures in
    let other = c.deref-6.ensures.value ∙ ap (λ (x : Spanned ForLoopNode). x.node.else_body.items) c.deref-5.ensures in
    let inside = goes_then c.open.new.self c.begin_loop.new.names c.use_statements.new.names head body in
    let region = goes_inside c.use_expression.new.names c.open.new.self c.use_statements.new.names c.close.new.self c.in_ok-around.around c.in_ok-around.ensures inside c.close.ensures in
    uses_then_on _ c.args.names.now c.close.new.self c.use_region.new.names c.use_region.result
    (uses_then c.args.names.now c.use_expression.new.names c.close.new.self iter region) c.use_region.ensures
    (λ q.
    let e = place_in q (expression_of v.iter) in
    let target = place_in_target q (expression_of v.target) in
    let stored = is_stored_in q.name (expression_of v.target) in
    let filter = place_if_given q (optional_in v.filter_expr) in
    let within = place_within q (statements_in v.body.items) in
    ap (λ (ss : Items Stmt). (e || ((target || not stored && filter) || (not (stored || just (codes "loop") q.name) && within))) || place_within q (statements_in ss)) other ∙
    loop_uses q e target stored filter within (place_within q (statements_in v.else_body.items)) ∙ ap (λ (x : Statement). place_by q x) (sym (for_tree n)))

pub use_with-returns : goal.use_with-returns
use_with-returns t c =
    let n = c.args.node.now in
    let assignments = assignments_in n.value.node.assignments.items in
    let body = statements_in n.value.node.body.items in
    let given = c.deref-2.ensures.value ∙ ap (λ (x : Spanned WithBlockNode). x.node.assignments.items) c.deref.ensures in
    let read = c.deref-4.ensures.value ∙ ap (λ (x : Spanned WithBlockNode). x.node.body.items) c.deref-3.ensures in
    let first = goes_as (λ q. ap (λ (xs : Items (Expr × Expr)). place_from q (assignments_in xs) false) given)
    (λ q. ap (λ (xs : Items (Expr × Expr)). is_assigned q (assignments_in xs)) given) c.in_ok-use_assignments.ensures in
    let behind = goes_as (λ q. ap (λ (ss : Items Stmt). place_within q (statements_in ss)) read) (λ q. ap (λ (ss : Items Stmt). is_stored_among q (statements_in ss)) read)
    c.in_ok-use_statements.ensures in
    let inside = goes_then c.open.new.self c.use_assignments.new.names c.use_statements.new.names first behind in
    uses_as (λ q. sym (used_from q assignments (place_within q body)) ∙ ap (λ (x : Statement). place_by q x) (sym (with_tree n)))
    (goes_inside c.args.names.now c.open.new.self c.use_statements.new.names c.close.new.self c.in_ok-around.around c.in_ok-around.ensures inside c.close.ensures)

pub use_other-returns-in_ok-use_region-in-SetBlock : goal.use_other-returns-in_ok-use_region-in-SetBlock
use_other-returns-in_ok-use_region-in-SetBlock t c =
    let n = c.in-SetBlock.n in
    let v = n.value.node in
    let tree = ap (λ (x : Stmt). statement_of x) c.in-SetBlock.is ∙ set_block_tree n in
    let read = c.deref-in-SetBlock-2.ensures.value ∙ ap (λ (x : Spanned SetBlockNode). x.node.body.items) c.deref-in-SetBlock.ensures in
    let body = uses_as (λ q. ap (λ (ss : Items Stmt). place_within q (statements_in ss)) read) c.in_ok-use_region-in-SetBlock.ensures in
    at_tree c.args.statement.now (set_block (expression_of v.target) (optional_in v.filter) (statements_in v.body.items)) c.args.names.now
    c.end_set_block.new.names c.end_set_block.result tree (λ q. refl) (λ q. refl)
    (goes_then_on _ _ c.args.names.now c.use_region-in-SetBlock.new.names c.end_set_block.new.names c.end_set_block.result body c.end_set_block.ensures
    (λ q.
    let within = place_within q (statements_in v.body.items) in
    ap (λ (x : Spanned SetBlockNode). within || (place_if_given q (optional_in x.node.filter) || place_in_target q (expression_of x.node.target))) c.deref-in-SetBlock-3.ensures ∙
    or_assoc within (place_if_given q (optional_in v.filter)) (place_in_target q (expression_of v.target)))
    (λ q. ap (λ (x : Spanned SetBlockNode). is_stored_in q (expression_of x.node.target)) c.deref-in-SetBlock-3.ensures))

pub use_other-returns-in_ok-use_expression-in-AutoEscape : goal.use_other-returns-in_ok-use_expression-in-AutoEscape
use_other-returns-in_ok-use_expression-in-AutoEscape t c =
    let n = c.in-AutoEscape.n in
    let v = n.value.node in
    let tree = ap (λ (x : Stmt). statement_of x) c.in-AutoEscape.is ∙ escape_tree n in
    let enabled = uses_as (λ q. ap (λ (x : Spanned AutoEscapeNode). place_in q (expression_of x.node.enabled)) c.deref-in-AutoEscape.ensures)
    c.in_ok-use_expression-in-AutoEscape.ensures in
    let read = c.deref-in-AutoEscape-3.ensures.value ∙ ap (λ (x : Spanned AutoEscapeNode). x.node.body.items) c.deref-in-AutoEscape-2.ensures in
    at_tree c.args.statement.now (auto_escape (expression_of v.enabled) (statements_in v.body.items)) c.args.names.now
    c.use_region-in-AutoEscape.new.names c.use_region-in-AutoEscape.result tree (λ q. refl) (λ q. refl)
    (uses_then_on _ c.args.names.now c.use_expression-in-AutoEscape.new.names c.use_region-in-AutoEscape.new.names c.use_region-in-AutoEscape.result enabled
    c.use_region-in-AutoEscape.ensures
    (λ q. ap (λ (ss : Items Stmt). place_in q (expression_of v.enabled) || place_within q (statements_in ss)) read))

pub use_other-returns-in_ok-use_region-in-FilterBlock : goal.use_other-returns-in_ok-use_region-in-FilterBlock
use_other-returns-in_ok-use_region-in-FilterBlock t c =
    let n = c.in-FilterBlock.n in
    let v = n.value.node in
    let tree = ap (λ (x : Stmt). statement_of x) c.in-FilterBlock.is ∙ filter_block_tree n in
    let read = c.deref-in-FilterBlock-2.ensures.value ∙ ap (λ (x : Spanned FilterBlockNode). x.node.body.items) c.deref-in-FilterBlock.ensures in
    let body = uses_as (λ q. ap (λ (ss : Items Stmt). place_within q (statements_in ss)) read) c.in_ok-use_region-in-FilterBlock.ensures in
    at_tree c.args.statement.now (filter_block (expression_of v.filter) (statements_in v.body.items)) c.args.names.now
    c.use_expression-in-FilterBlock.new.names c.use_expression-in-FilterBlock.result tree (λ q. refl) (λ q. refl)
    (uses_then_on _ c.args.names.now c.use_region-in-FilterBlock.new.names c.use_expression-in-FilterBlock.new.names c.use_expression-in-FilterBlock.result body
    c.use_expression-in-FilterBlock.ensures
    (λ q. ap (λ (x : Spanned FilterBlockNode). place_within q (statements_in v.body.items) || place_in q (expression_of x.node.filter)) c.deref-in-FilterBlock-3.ensures))

pub use_other-returns-in-Block : goal.use_other-returns-in-Block
use_other-returns-in-Block t c =
    let n = c.in-Block.n in
    let v = n.value.node in
    let tree = ap (λ (x : Stmt). statement_of x) c.in-Block.is ∙ block_tree n in
    let read = c.deref-in-Block-2.ensures.value ∙ ap (λ (x : Spanned BlockNode). x.node.body.items) c.deref-in-Block.ensures in
    at_tree c.args.statement.now (block v.name.now v.required (statements_in v.body.items)) c.args.names.now c.use_region-in-Block.new.names
    c.use_region-in-Block.result tree (λ q. ap (λ (ss : Items Stmt). place_within q (statements_in ss)) read) (λ q. refl) c.use_region-in-Block.ensures

pub use_other-returns-in_ok-use_macro-in-Macro : goal.use_other-returns-in_ok-use_macro-in-Macro
use_other-returns-in_ok-use_macro-in-Macro t c =
    let n = c.in-Macro.n in
    let v = n.value.node in
    let tree = ap (λ (x : Stmt). statement_of x) c.in-Macro.is ∙ macro_tree n in
    let body = c.deref-in-Macro-2.ensures.value ∙ ap (λ (x : Spanned MacroNode). x.node.body.items) c.deref-in-Macro.ensures in
    let args = c.deref-in-Macro-3.ensures.value ∙ ap (λ (x : Spanned MacroNode). x.node.args.items) c.deref-in-Macro.ensures in
    let defaults = c.deref-in-Macro-4.ensures.value ∙ ap (λ (x : Spanned MacroNode). x.node.defaults.items) c.deref-in-Macro.ensures in
    let inside = uses_as (λ q. macro_reads q body args defaults) c.in_ok-use_macro-in-Macro.ensures in
    at_tree c.args.statement.now
    (macro v.name.now (expressions_in v.args.items) (expressions_in v.defaults.items) (statements_in v.body.items)) c.args.names.now c.store.new.self
    c.store.result tree (λ q. refl) (λ q. refl)
    (goes_then_on _ _ c.args.names.now c.use_macro.new.names c.store.new.self c.store.result inside c.store.ensures
    (λ q. or_false (place_of_macro q (expressions_in v.args.items) (expressions_in v.defaults.items) (place_within q (statements_in v.body.items))))
    (λ q. ap (λ (x : Spanned MacroNode). just x.node.name.now q) c.deref-in-Macro.ensures))

pub use_other-returns-in_ok-use_call-in-CallBlock : goal.use_other-returns-in_ok-use_call-in-CallBlock
use_other-returns-in_ok-use_call-in-CallBlock t c =
    let n = c.in-CallBlock.n in
    let v = out-CallBlock n.value.node in
    let called = v.call.value.node in
    let declared = v.macro_decl.value.node in
    let tree = ap (λ (x : Stmt). statement_of x) c.in-CallBlock.is ∙ call_tree n in
    let call = ap (λ (x : Spanned CallBlockNode). (out-CallBlock x.node).call.value) c.deref-in-CallBlock.ensures in
    let declaration = ap (λ (x : Spanned CallBlockNode). (out-CallBlock x.node).macro_decl.value) c.deref-in-CallBlock-3.ensures in
    let first = uses_as (λ q. ap (λ (x : Spanned CallNode). place_in q (expression_of x.node.expr) || place_in_arguments q (arguments_in x.node.args.items)) (c.deref-in-CallBlock-2.ensures ∙ call))
    c.in_ok-use_call-in-CallBlock.ensures in
    let body = c.deref-in-CallBlock-5.ensures.value ∙ ap (λ (x : Spanned MacroNode). x.node.body.items) (c.deref-in-CallBlock-4.ensures ∙ declaration) in
    let args = c.deref-in-CallBlock-6.ensures.value ∙ ap (λ (x : Spanned MacroNode). x.node.args.items) (c.deref-in-CallBlock-4.ensures ∙ declaration) in
    let defaults = c.deref-in-CallBlock-7.ensures.value ∙ ap (λ (x : Spanned MacroNode). x.node.defaults.items) (c.deref-in-CallBlock-4.ensures ∙ declaration) in
    at_tree c.args.statement.now
    (call_block (expression_of called.expr) (arguments_in called.args.items) (expressions_in declared.args.items) (expressions_in declared.defaults.items)
    (statements_in declared.body.items)) c.args.names.now c.use_macro-in-CallBlock.new.names c.use_macro-in-CallBlock.result tree (λ q. refl) (λ q. refl)
    (uses_then_on _ c.args.names.now c.use_call.new.names c.use_macro-in-CallBlock.new.names c.use_macro-in-CallBlock.result first
    c.use_macro-in-CallBlock.ensures
    (λ q. ap (λ b. (place_in q (expression_of called.expr) || place_in_arguments q (arguments_in called.args.items)) || b) (macro_reads q body args defaults)))

pub use_chain-use_region-requires : goal.use_chain-use_region-requires
use_chain-use_region-requires t c =
    let read = c.deref-in-loop-names.ensures.value ∙ ap (λ (x : Spanned IfCondNode). x.node.true_body.items) c.deref.ensures in
    (part_falls_within _ _ (size-Stmt (IfCond c.args.first.now)) t (deep_as refl read (if_deep c.loop-names.at.now)) c.loop-names.invariant.deep c.decreases, tt)

pub use_chain-use_region-requires-then-len-ne1 : goal.use_chain-use_region-requires-then-len-ne1
use_chain-use_region-requires-then-len-ne1 t c =
    let read = c.deref-then-len-ne1.ensures.value ∙ ap (λ (x : Spanned IfCondNode). x.node.false_body.items) c.deref.ensures in
    (part_falls_within _ _ (size-Stmt (IfCond c.args.first.now)) t (deep_as refl read (if_other_deep c.loop-names.at.now)) c.loop-names.invariant.deep c.decreases, tt)

pub use_chain-use_region-requires-in_default : goal.use_chain-use_region-requires-in_default
use_chain-use_region-requires-in_default t c =
    let read = c.deref-in_default.ensures.value ∙ ap (λ (x : Spanned IfCondNode). x.node.false_body.items) c.deref.ensures in
    (part_falls_within _ _ (size-Stmt (IfCond c.args.first.now)) t (deep_as refl read (if_other_deep c.loop-names.at.now)) c.loop-names.invariant.deep c.decreases, tt)

pub use_loop-use_statements-requires : goal.use_loop-use_statements-requires
use_loop-use_statements-requires t c =
    let read = c.deref-4.ensures.value ∙ ap (λ (x : Spanned ForLoopNode). x.node.body.items) c.deref-3.ensures in
    (region_falls _ _ t (deep_as refl read (for_deep c.args.node.now)) c.decreases, tt)

pub use_loop-use_region-requires : goal.use_loop-use_region-requires
use_loop-use_region-requires t c =
    let read = c.deref-6.ensures.value ∙ ap (λ (x : Spanned ForLoopNode). x.node.else_body.items) c.deref-5.ensures in
    (part_falls _ _ t (deep_as refl read (for_other_deep c.args.node.now)) c.decreases, tt)

pub use_macro-use_statements-requires : goal.use_macro-use_statements-requires
use_macro-use_statements-requires t c = (inside_falls (body_deep c.args.body.now) t c.decreases, tt)

pub use_region-use_statements-requires : goal.use_region-use_statements-requires
use_region-use_statements-requires t c = (inside_falls (body_deep c.args.body.now) t c.decreases, tt)

pub use_other-use_region-requires : goal.use_other-use_region-requires
use_other-use_region-requires t c = (body_falls _ _ t (deep_as c.in-Template.is c.deref.ensures.value (whole_deep c.in-Template.n)) c.decreases, tt)

pub use_other-use_loop-requires : goal.use_other-use_loop-requires
use_other-use_loop-requires t c =
    (node_falls _ (size-Stmt c.args.statement.now) t (ap (λ (x : Stmt). size-Stmt x) c.in-ForLoop.is) c.decreases, tt)

pub use_other-use_chain-requires : goal.use_other-use_chain-requires
use_other-use_chain-requires t c =
    (node_falls _ (size-Stmt c.args.statement.now) t (ap (λ (x : Stmt). size-Stmt x) c.in-IfCond.is) c.decreases, tt)

pub use_other-use_with-requires : goal.use_other-use_with-requires
use_other-use_with-requires t c =
    (node_falls _ (size-Stmt c.args.statement.now) t (ap (λ (x : Stmt). size-Stmt x) c.in-WithBlock.is) c.decreases, tt)

pub use_other-use_region-requires-in-SetBlock : goal.use_other-use_region-requires-in-SetBlock
use_other-use_region-requires-in-SetBlock t c =
    let read = c.deref-in-SetBlock-2.ensures.value ∙ ap (λ (x : Spanned SetBlockNode). x.node.body.items) c.deref-in-SetBlock.ensures in
    (body_falls _ _ t (deep_as c.in-SetBlock.is read (set_block_deep c.in-SetBlock.n)) c.decreases, tt)

pub use_other-use_region-requires-in-AutoEscape : goal.use_other-use_region-requires-in-AutoEscape
use_other-use_region-requires-in-AutoEscape t c =
    let read = c.deref-in-AutoEscape-3.ensures.value ∙ ap (λ (x : Spanned AutoEscapeNode). x.node.body.items) c.deref-in-AutoEscape-2.ensures in
    (body_falls _ _ t (deep_as c.in-AutoEscape.is read (escape_deep c.in-AutoEscape.n)) c.decreases, tt)

pub use_other-use_region-requires-in-FilterBlock : goal.use_other-use_region-requires-in-FilterBlock
use_other-use_region-requires-in-FilterBlock t c =
    let read = c.deref-in-FilterBlock-2.ensures.value ∙ ap (λ (x : Spanned FilterBlockNode). x.node.body.items) c.deref-in-FilterBlock.ensures in
    (body_falls _ _ t (deep_as c.in-FilterBlock.is read (filter_block_deep c.in-FilterBlock.n)) c.decreases, tt)

pub use_other-use_region-requires-in-Block : goal.use_other-use_region-requires-in-Block
use_other-use_region-requires-in-Block t c =
    let read = c.deref-in-Block-2.ensures.value ∙ ap (λ (x : Spanned BlockNode). x.node.body.items) c.deref-in-Block.ensures in
    (body_falls _ _ t (deep_as c.in-Block.is read (block_deep c.in-Block.n)) c.decreases, tt)

pub use_other-use_macro-requires : goal.use_other-use_macro-requires
use_other-use_macro-requires t c =
    let read = c.deref-in-Macro-2.ensures.value ∙ ap (λ (x : Spanned MacroNode). x.node.body.items) c.deref-in-Macro.ensures in
    (body_falls _ _ t (deep_as c.in-Macro.is read (macro_deep c.in-Macro.n)) c.decreases, tt)

pub use_other-returns-in-EmitExpr : goal.use_other-returns-in-EmitExpr
use_other-returns-in-EmitExpr t c =
    at_arm c.args.names.now c.use_expression.new.names c.use_expression.result c.in-EmitExpr.is (λ q. refl) (λ q. refl) c.use_expression.ensures

pub use_other-returns-in-EmitRaw : goal.use_other-returns-in-EmitRaw
use_other-returns-in-EmitRaw t c = at_none c.args.names.now c.in-EmitRaw.is (λ q. refl) (λ q. refl)

pub use_other-returns-in-Set : goal.use_other-returns-in-Set
use_other-returns-in-Set t c =
    let first = c.deref-in-Set.ensures in
    let second = c.deref-in-Set-2.ensures in
    at_arm c.args.names.now c.assign.new.names c.assign.result c.in-Set.is
    (λ q. ap (λ (x : Spanned SetNode). place_in q (expression_of x.node.expr) || place_in_target q (expression_of c.deref-in-Set.result.now.node.target)) second ∙
    ap (λ (x : Spanned SetNode). place_in q (expression_of c.in-Set.n.value.node.expr) || place_in_target q (expression_of x.node.target)) first)
    (λ q. ap (λ (x : Spanned SetNode). is_stored_in q (expression_of x.node.target)) first) c.assign.ensures

pub use_other-returns-in-Import : goal.use_other-returns-in-Import
use_other-returns-in-Import t c =
    let first = c.deref-in-Import.ensures in
    let second = c.deref-in-Import-2.ensures in
    at_arm c.args.names.now c.assign-in-Import.new.names c.assign-in-Import.result c.in-Import.is
    (λ q. ap (λ (x : Spanned ImportNode). place_in q (expression_of x.node.expr) || place_in_target q (expression_of c.deref-in-Import.result.now.node.name)) second ∙
    ap (λ (x : Spanned ImportNode). place_in q (expression_of c.in-Import.n.value.node.expr) || place_in_target q (expression_of x.node.name)) first)
    (λ q. ap (λ (x : Spanned ImportNode). is_stored_in q (expression_of x.node.name)) first) c.assign-in-Import.ensures

pub use_other-returns-in_ok-use_expression-in-FromImport : goal.use_other-returns-in_ok-use_expression-in-FromImport
use_other-returns-in_ok-use_expression-in-FromImport t c =
    let v = c.in-FromImport.n.value.node in
    let read = c.deref-in-FromImport-3.ensures.value ∙ ap (λ (x : Spanned FromImportNode). x.node.names.items) c.deref-in-FromImport-2.ensures in
    let first = uses_as (λ q. ap (λ (x : Spanned FromImportNode). place_in q (expression_of x.node.expr)) c.deref-in-FromImport.ensures)
    c.in_ok-use_expression-in-FromImport.ensures in
    at_arm c.args.names.now c.bind_imports.new.names c.bind_imports.result c.in-FromImport.is (λ q. refl) (λ q. refl)
    (goes_then_on _ _ c.args.names.now c.use_expression-in-FromImport.new.names c.bind_imports.new.names c.bind_imports.result first c.bind_imports.ensures
    (λ q. or_false (place_in q (expression_of v.expr)))
    (λ q. ap (λ (xs : Items (Expr × Option Expr)). is_imported q (imports_in xs)) read))

pub use_other-returns-in-Extends : goal.use_other-returns-in-Extends
use_other-returns-in-Extends t c =
    at_arm c.args.names.now c.use_expression-in-Extends.new.names c.use_expression-in-Extends.result c.in-Extends.is (λ q. ap (λ (x : Spanned ExtendsNode). place_in q (expression_of x.node.name)) c.deref-in-Extends.ensures) (λ q. refl) c.use_expression-in-Extends.ensures

pub use_other-returns-in-Include : goal.use_other-returns-in-Include
use_other-returns-in-Include t c =
    at_arm c.args.names.now c.use_expression-in-Include.new.names c.use_expression-in-Include.result c.in-Include.is (λ q. ap (λ (x : Spanned IncludeNode). place_in q (expression_of x.node.name)) c.deref-in-Include.ensures) (λ q. refl) c.use_expression-in-Include.ensures

pub use_other-returns-in-Continue : goal.use_other-returns-in-Continue
use_other-returns-in-Continue t c = at_none c.args.names.now c.in-Continue.is (λ q. refl) (λ q. refl)

pub use_other-returns-in-Break : goal.use_other-returns-in-Break
use_other-returns-in-Break t c = at_none c.args.names.now c.in-Break.is (λ q. refl) (λ q. refl)

pub use_other-returns-in-Do : goal.use_other-returns-in-Do
use_other-returns-in-Do t c =
    at_arm c.args.names.now c.use_call-in-Do.new.names c.use_call-in-Do.result c.in-Do.is
    (λ q. ap (λ (x : Spanned CallNode). place_in q (expression_of x.node.expr) || place_in_arguments q (arguments_in x.node.args.items)) c.deref-in-Do.ensures) (λ q. refl) c.use_call-in-Do.ensures

pub use_statements-use_statement-requires : goal.use_statements-use_statement-requires
use_statements-use_statement-requires t c = (
  item_falls _ (body_deep c.args.body.now) t
      (deep_at c.args.body.now c.loop-statement.statement-index c.statement-item.result (omega arith) c.statement-item.is) c.decreases,
  tt,
)

pub use_with-use_statements-requires : goal.use_with-use_statements-requires
use_with-use_statements-requires t c =
    let read = c.deref-4.ensures.value ∙ ap (λ (x : Spanned WithBlockNode). x.node.body.items) c.deref-3.ensures in
    (region_falls _ _ t (deep_as refl read (with_deep c.args.node.now)) c.decreases, tt)

pub use_other-use_macro-requires-in-CallBlock : goal.use_other-use_macro-requires-in-CallBlock
use_other-use_macro-requires-in-CallBlock t c =
    let declared = ap (λ (x : Spanned CallBlockNode). (out-CallBlock x.node).macro_decl.value) c.deref-in-CallBlock-3.ensures in
    let read = c.deref-in-CallBlock-5.ensures.value ∙ ap (λ (x : Spanned MacroNode). x.node.body.items) (c.deref-in-CallBlock-4.ensures ∙ declared) in
    (body_falls _ _ t (deep_as c.in-CallBlock.is read (call_deep c.in-CallBlock.n)) c.decreases, tt)

pub use_statement-returns-in-ForLoop : goal.use_statement-returns-in-ForLoop
use_statement-returns-in-ForLoop t c =
    at_node c.args.names.now c.use_loop.new.names c.use_loop.result c.in-ForLoop.is (λ q. sym (ap (λ (x : Statement). is_stored_by q x) (for_tree c.in-ForLoop.n)))
    c.use_loop.ensures

pub use_statement-returns-in-IfCond : goal.use_statement-returns-in-IfCond
use_statement-returns-in-IfCond t c =
    at_node c.args.names.now c.use_chain.new.names c.use_chain.result c.in-IfCond.is (λ q. sym (ap (λ (x : Statement). is_stored_by q x) (if_tree c.in-IfCond.n)))
    c.use_chain.ensures

pub use_statement-returns-in-EmitExpr : goal.use_statement-returns-in-EmitExpr
use_statement-returns-in-EmitExpr t c =
    at_arm c.args.names.now c.use_expression.new.names c.use_expression.result c.in-EmitExpr.is (λ q. refl) (λ q. refl) c.use_expression.ensures

pub use_statement-returns-in-EmitRaw : goal.use_statement-returns-in-EmitRaw
use_statement-returns-in-EmitRaw t c = at_none c.args.names.now c.in-EmitRaw.is (λ q. refl) (λ q. refl)

pub use_statement-use_loop-requires : goal.use_statement-use_loop-requires
use_statement-use_loop-requires t c =
    (known_node_falls _ (size-Stmt c.args.statement.now) t (ap (λ (x : Stmt). size-Stmt x) c.in-ForLoop.is) c.decreases, tt)

pub use_statement-use_chain-requires : goal.use_statement-use_chain-requires
use_statement-use_chain-requires t c =
    (known_node_falls _ (size-Stmt c.args.statement.now) t (ap (λ (x : Stmt). size-Stmt x) c.in-IfCond.is) c.decreases, tt)
