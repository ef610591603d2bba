use Rattle.std.proofs.Common.{◌≡◌, ℕ, ◌+◌, ◌*◌, ◌<◌, List, [], ◌∷◌, ◌++◌, length, get_or, vec_len, true, false, ap, sym, subst, ◌∙◌, arith, refl, rules}
use Rattle.std.proofs.lemmas.Result.{on_ok_weaker}
use Rattle.template_compiler_tree_statements.specs.View.{assignments_in, statement_of}
use Rattle.template_compiler_tree.specs.Tree.{Statement, auto_escape, filter_block, with_block}
use Rattle.template_compiler_tree_statements.specs.declared.statements.AutoEscape.{AutoEscape as AutoEscapeNode}
use Rattle.template_compiler_tree_statements.specs.declared.statements.CallBlock.{CallBlock as CallBlockNode, out-CallBlock}
use Rattle.template_compiler_tree_statements.specs.declared.statements.FilterBlock.{FilterBlock as FilterBlockNode}
use Rattle.template_compiler_tree_statements.specs.declared.statements.ForLoop.{ForLoop as ForLoopNode}
use Rattle.template_compiler_tree_statements.specs.declared.statements.IfCond.{IfCond as IfCondNode}
use Rattle.template_compiler_tree_statements.specs.declared.statements.Macro.{Macro as MacroNode}
use Rattle.template_compiler_tree_statements.specs.declared.statements.SetBlock.{SetBlock as SetBlockNode}
use Rattle.template_compiler_tree_statements.specs.declared.statements.Stmt.{Stmt}
use Rattle.template_compiler_tree_statements.specs.declared.statements.WithBlock.{WithBlock as WithBlockNode}
use Rattle.template_compiler_tree.specs.View.{arguments_in, expression_of, expressions_in, optional_in}
use Rattle.template_compiler_tree.specs.CallView.{called}
use Rattle.template_compiler_tree.specs.declared.calls.CallType.{CallType}
use Rattle.template_compiler_tree.specs.declared.expressions.Expr.{Expr}
use Rattle.template_compiler_walk.specs.Runnable.{AreRunnable, AreRunnableStatements, AreTargets, IsRunnableStatement}
use Rattle.template_compiler_code.specs.Code.{push_loop}
use Rattle.template_compiler_code.specs.Listing.{code_in}
use Rattle.template_compiler_codegen.specs.Statements.{no_ways, statements_code, target_code}
use Rattle.template_compiler_emission.specs.declared.leaps.Leap.TheVariants.{Always, IfFalse}
use Rattle.template_compiler_emission.specs.Puts.{Puts}
use Rattle.template_compiler_emission.proofs.Putting.{puts_then}
use Rattle.template_compiler_expression_codegen.proofs.Begun.{puts_block_called, puts_with_caller}
use Rattle.template_compiler_expression_codegen.proofs.Putting.{landed_at, puts_as}
use Rattle.template_compiler_tree.specs.declared.span.Spanned.{Spanned}
use Rattle.template_compiler_tree_parts.specs.Listed.{statements_in}
use Rattle.template_compiler_statement_codegen.specs.Breaks.{breaks_in}
use Rattle.template_compiler_statement_codegen.specs.Macros.{backwards, macro_of, parameters_code}
use Rattle.template_compiler_statement_codegen.specs.Listed.{body_deep, condition_deep, condition_of}
use Rattle.template_compiler_statement_codegen.specs.Rounds.{LowersBody, places_in, ways_of}
use Rattle.template_compiler_statement_codegen.specs.declared.rounds.Closing.{Closing}
use Rattle.template_compiler_statement_codegen.specs.declared.rounds.Closing.TheVariants.{Capture}
use Rattle.template_compiler_statement_codegen.specs.declared.rounds.Round.{Round}
use Rattle.template_compiler_statement_codegen.proofs.Bodies.{no_items, some_items, statement_deep, statement_runnable}
use Rattle.template_compiler_statement_codegen.proofs.Closings.{lowers_captured, lowers_closed}
use Rattle.template_compiler_statement_codegen.proofs.Elifs.{RemainsAt, alone, before_other, chain_begins, chain_ends, chain_next, later_runs}
use Rattle.template_compiler_statement_codegen.proofs.Filtering.{lowers_filter_block, lowers_set_block}
use Rattle.template_compiler_statement_codegen.proofs.Looping.{ends_alone, ends_otherwise, puts_rounds}
use Rattle.template_compiler_statement_codegen.proofs.Declaring.{caller_of, never_block, puts_declared}
use Rattle.template_compiler_statement_codegen.proofs.Lowering.{lowers_behind, lowers_put, remains_told}
use Rattle.template_compiler_statement_codegen.proofs.Nodes.{call_block_deep, call_block_is, condition_is, condition_within, elif_smaller, elif_tree, escape_deep, escape_is, filter_block_deep, filter_block_is, loop_deep, loop_is, loop_of, loop_other_deep, macro_deep, macro_is, set_block_deep, set_block_is, set_block_runs, with_deep, with_is}
use Rattle.template_compiler_statement_codegen.proofs.Wholes.{looser_statements, puts_whole_body}
use Rattle.template_compiler_statement_codegen.proofs.Writing.{lowers_printed}
use Rattle.template_compiler_statement_codegen.proofs.statements.+statement.Goals as goal

pub compile_body-compile_statement-requires : goal.compile_body-compile_statement-requires
compile_body-compile_statement-requires t c =
    let ss = c.args.body.now in
    let i = c.loop-statement.statement-index in
    let within : i < length ss = omega arith in (
      omega (arith, statement_deep ss i c.statement-item.result within c.statement-item.is, c.decreases),
      statement_runnable ss i c.statement-item.result c.requires within c.statement-item.is,
    )

pub compile_branch-returns-then-is_empty-clause-lowered : goal.compile_branch-returns-then-is_empty-clause-lowered
compile_branch-returns-then-is_empty-clause-lowered t c =
    let other = c.args.condition.now.false_body in
    let none = no_items other.items other.len c.is_empty.result (omega (arith, other.ok.0)) c.is_empty.ensures c.if-is_empty.true in
    let landed = landed_at IfFalse c.in_ok-next.next (code_in c.compile_expr.new.code) (code_in c.compile_body.new.code) (code_in c.land.new.code)
    c.in_ok-next.ensures.place c.land.ensures.landed in
    alone other.items (ways_of c.args.round.now) none c.in_ok-compile_expr.ensures.put c.in_ok-next.ensures.put
    (subst (λ ss. LowersBody (statements_in ss) c.reserve.new.code c.compile_body.new.code c.args.round.now c.compile_body.new.round)
    c.deref.ensures.value c.in_ok-compile_body.ensures.lowered) landed c.land.ensures.same

pub compile_branch-returns-clause-lowered : goal.compile_branch-returns-clause-lowered
compile_branch-returns-clause-lowered t c =
    let other = c.args.condition.now.false_body in
    let some = some_items other.items other.len c.is_empty.result (omega (arith, other.ok.0)) c.is_empty.ensures c.if-is_empty.false in
    let landed = landed_at IfFalse c.in_ok-next.next (code_in c.compile_expr.new.code) (code_in c.reserve-2.new.code) (code_in c.land-2.new.code)
    c.in_ok-next.ensures.place c.land-2.ensures.landed in
    before_other other.items (ways_of c.args.round.now) c.in_ok-end.end some c.in_ok-end.ensures.place c.in_ok-compile_expr.ensures.put c.in_ok-next.ensures.put
    (subst (λ ss. LowersBody (statements_in ss) c.reserve.new.code c.compile_body.new.code c.args.round.now c.compile_body.new.round)
    c.deref.ensures.value c.in_ok-compile_body.ensures.lowered) c.in_ok-end.ensures.put landed c.land-2.ensures.same

pub compile_closed-returns-clause-lowered : goal.compile_closed-returns-clause-lowered
compile_closed-returns-clause-lowered t c =
    let r = c.args.round.now in
    let inside : Round = record { asks = r.asks; closings = c.append.new.items; breaks = r.breaks } in
    let behind = c.compile_body.new.round in
    let last : Round = record { asks = behind.asks; closings = c.truncate.new.self; breaks = behind.breaks } in
    let long : c.len-open.result ≡ length r.closings.items = omega (arith, c.len-open.ensures, r.closings.ok.0) in
    on_ok_weaker c.put.result (λ closed.
    lowers_closed c.args.closing (statements_in c.args.body.now) r inside behind last c.len-open.result c.in_ok-append.ensures.pushed refl refl
    c.in_ok-compile_body.ensures.lowered long c.truncate.ensures.items refl refl (puts_as c.instruction.ensures closed)) c.put.ensures.put

pub compile_captured-returns-clause-lowered : goal.compile_captured-returns-clause-lowered
compile_captured-returns-clause-lowered t c =
    let r = c.args.round.now in
    let inside : Round = record { asks = r.asks; closings = c.append-2.new.items; breaks = r.breaks } in
    let behind = c.compile_body.new.round in
    let last : Round = record { asks = behind.asks; closings = c.truncate.new.self; breaks = behind.breaks } in
    let long : c.len-open.result ≡ length r.closings.items = omega (arith, c.len-open.ensures, r.closings.ok.0) in
    let opened = c.in_ok-append-2.ensures.pushed ∙ ap (λ (cs : List Closing). cs ++ Capture ∷ []) c.in_ok-append.ensures.pushed in
    lowers_captured (statements_in c.args.body.now) r inside behind last c.len-open.result opened refl refl c.in_ok-compile_body.ensures.lowered long
    c.truncate.ensures.items refl refl

pub compile_set_block-returns-clause-lowered : goal.compile_set_block-returns-clause-lowered
compile_set_block-returns-clause-lowered t c = on_ok_weaker c.store_filtered.result (λ stored.
    lowers_set_block (expression_of c.args.target.now) (optional_in c.args.filters.now) (statements_in c.args.body.now) {s = c.compile_captured.new.round}
    c.in_ok-put.ensures.put c.in_ok-compile_captured.ensures.lowered c.in_ok-put-2.ensures.put stored) c.store_filtered.ensures.put

pub compile_filter_block-returns-clause-lowered : goal.compile_filter_block-returns-clause-lowered
compile_filter_block-returns-clause-lowered t c = on_ok_weaker c.print_filtered.result (λ printed.
    lowers_filter_block (expression_of c.args.filters.now) (statements_in c.args.body.now) {s = c.compile_captured.new.round}
    c.in_ok-put.ensures.put c.in_ok-compile_captured.ensures.lowered c.in_ok-put-2.ensures.put printed) c.print_filtered.ensures.put

pub compile_elifs-returns-clause-lowered : goal.compile_elifs-returns-clause-lowered
compile_elifs-returns-clause-lowered t c = remains_told c.in_ok-compile_chain.ensures.lowered c.tell_breaks.ensures.told c.tell_breaks.ensures.same

pub compile_alone-returns-clause-lowered : goal.compile_alone-returns-clause-lowered
compile_alone-returns-clause-lowered t c =
    let node = c.args.condition.now in
    remains_told
    (chain_ends node node node c.deref.result.now [] (places_in c.in_ok-end.end) (places_in c.in_ok-end.end) refl c.deref.ensures.value refl
    (chain_begins node c.args.code.now c.args.round.now) c.in_ok-end.ensures.lowered c.in_ok-compile_body.ensures.lowered)
    c.tell_end.ensures.told c.tell_end.ensures.same

pub compile_chain-loop-end-init : goal.compile_chain-loop-end-init
compile_chain-loop-end-init t c =
    let first = c.args.first.now.value.node in
    let code = c.args.code.now in
    let round = c.args.round.now in
    record {
      chain = subst (λ (ends : List ℕ). RemainsAt first first ends code code round round) (sym c.requires.none) (chain_begins first code round);
      runs = c.requires.runs;
      deep = omega arith;
    }

pub compile_chain-compile_branch-requires : goal.compile_chain-compile_branch-requires
compile_chain-compile_branch-requires t c =
    let same = ap (λ (x : Spanned IfCondNode). condition_deep x.node) c.deref.ensures in (
      omega (arith, same, c.loop-end.invariant.deep, c.decreases),
      subst (λ (x : Spanned IfCondNode). IsRunnableStatement true (condition_of x.node)) (sym c.deref.ensures) c.loop-end.invariant.runs,
    )

pub compile_chain-compile_body-requires : goal.compile_chain-compile_body-requires
compile_chain-compile_body-requires t c =
    let at = c.loop-end.at.now.value.node in
    let other = c.deref-then-len-ne1.ensures.value ∙ ap (λ (x : Spanned IfCondNode). x.node.false_body.items) c.deref.ensures in
    let same = ap (λ (ss : List Stmt). body_deep ss) other in (
      omega (arith, same, c.loop-end.invariant.deep, c.decreases),
      subst (λ (ss : List Stmt). AreRunnableStatements true (statements_in ss)) (sym other) c.loop-end.invariant.runs.2,
    )

pub compile_chain-compile_body-requires-in_default : goal.compile_chain-compile_body-requires-in_default
compile_chain-compile_body-requires-in_default t c =
    let at = c.loop-end.at.now.value.node in
    let other = c.deref-in_default.ensures.value ∙ ap (λ (x : Spanned IfCondNode). x.node.false_body.items) c.deref.ensures in
    let same = ap (λ (ss : List Stmt). body_deep ss) other in (
      omega (arith, same, c.loop-end.invariant.deep, c.decreases),
      subst (λ (ss : List Stmt). AreRunnableStatements true (statements_in ss)) (sym other) c.loop-end.invariant.runs.2,
    )

pub compile_chain-returns-then-len-ne1-clause-lowered : goal.compile_chain-returns-then-len-ne1-clause-lowered
compile_chain-returns-then-len-ne1-clause-lowered t c = on_ok_weaker c.compile_body.result (λ last.
    chain_ends c.args.first.now.value.node c.loop-end.at.now.value.node c.deref.result.now.node c.deref-then-len-ne1.result.now c.loop-end.ends.items
    (places_in c.in_ok-end.end) c.keep.new.places.items (ap (λ (x : Spanned IfCondNode). x.node) c.deref.ensures)
    (c.deref-then-len-ne1.ensures.value ∙ ap (λ (x : Spanned IfCondNode). x.node.false_body.items) c.deref.ensures) c.in_ok-keep.ensures.kept
    c.loop-end.invariant.chain c.in_ok-end.ensures.lowered last) c.compile_body.ensures.lowered

pub compile_chain-returns-in_default-clause-lowered : goal.compile_chain-returns-in_default-clause-lowered
compile_chain-returns-in_default-clause-lowered t c = on_ok_weaker c.compile_body-in_default.result (λ last.
    chain_ends c.args.first.now.value.node c.loop-end.at.now.value.node c.deref.result.now.node c.deref-in_default.result.now c.loop-end.ends.items
    (places_in c.in_ok-end.end) c.keep.new.places.items (ap (λ (x : Spanned IfCondNode). x.node) c.deref.ensures)
    (c.deref-in_default.ensures.value ∙ ap (λ (x : Spanned IfCondNode). x.node.false_body.items) c.deref.ensures) c.in_ok-keep.ensures.kept
    c.loop-end.invariant.chain c.in_ok-end.ensures.lowered last) c.compile_body-in_default.ensures.lowered

pub compile_chain-loop-end-preserved : goal.compile_chain-loop-end-preserved
compile_chain-loop-end-preserved t c =
    let at = c.loop-end.at.now.value.node in
    let later = c.in-IfCond.n.value.node in
    let shared = ap (λ (x : Spanned IfCondNode). vec_len x.node.false_body) c.deref.ensures in
    let one : length at.false_body.items ≡ 1 = omega (arith, shared, c.len.ensures, c.if-len-ne1.false, at.false_body.ok.0) in
    let read : c.index.result.now ≡ get_or at.false_body.items 0 c.index.result.now =
    c.index.ensures ∙ ap (λ (x : Spanned IfCondNode). get_or x.node.false_body.items 0 c.index.result.now) c.deref.ensures in
    let tree = elif_tree at.false_body.items c.index.result.now c.in-IfCond.n later one read c.in-IfCond.is refl in
    record {
      chain = chain_next c.args.first.now.value.node at c.deref.result.now.node later c.loop-end.ends.items (places_in c.in_ok-end.end) c.keep.new.places.items
          (ap (λ (x : Spanned IfCondNode). x.node) c.deref.ensures) tree c.in_ok-keep.ensures.kept c.loop-end.invariant.chain c.in_ok-end.ensures.lowered;
      runs = later_runs at later c.loop-end.invariant.runs tree;
      deep = omega (arith, elif_smaller at.false_body.items c.index.result.now c.in-IfCond.n later one read c.in-IfCond.is refl, c.loop-end.invariant.deep);
    }

pub compile_chain-loop-end-smaller : goal.compile_chain-loop-end-smaller
compile_chain-loop-end-smaller t c =
    let at = c.loop-end.at.now.value.node in
    let shared = ap (λ (x : Spanned IfCondNode). vec_len x.node.false_body) c.deref.ensures in
    let one : length at.false_body.items ≡ 1 = omega (arith, shared, c.len.ensures, c.if-len-ne1.false, at.false_body.ok.0) in
    let read : c.index.result.now ≡ get_or at.false_body.items 0 c.index.result.now =
    c.index.ensures ∙ ap (λ (x : Spanned IfCondNode). get_or x.node.false_body.items 0 c.index.result.now) c.deref.ensures in
    omega (arith, elif_smaller at.false_body.items c.index.result.now c.in-IfCond.n c.in-IfCond.n.value.node one read c.in-IfCond.is refl)

pub compile_loop_end-returns-then-is_empty-clause-lowered : goal.compile_loop_end-returns-then-is_empty-clause-lowered
compile_loop_end-returns-then-is_empty-clause-lowered t c =
    let ss = c.args.otherwise.now in
    let w = ways_of c.args.round.now in
    let none = no_items ss (length ss) c.is_empty.result refl c.is_empty.ensures c.if-is_empty.true in
    on_ok_weaker c.put.result (λ put. ends_alone ss (statements_code w (statements_in ss)) (breaks_in w (statements_in ss)) c.args.round.now none put)
    c.put.ensures.put

pub compile_loop_end-returns-clause-lowered : goal.compile_loop_end-returns-clause-lowered
compile_loop_end-returns-clause-lowered t c =
    let ss = c.args.otherwise.now in
    let some = some_items ss (length ss) c.is_empty.result refl c.is_empty.ensures c.if-is_empty.false in
    let landed = landed_at IfFalse c.in_ok-end.end (code_in c.put-3.new.code) (code_in c.compile_body.new.code) (code_in c.land.new.code)
    c.in_ok-end.ensures.place c.land.ensures.landed in
    ends_otherwise ss some c.in_ok-put.ensures.put c.in_ok-put-2.ensures.put c.in_ok-end.ensures.put c.in_ok-compile_body.ensures.lowered landed
    c.land.ensures.same

pub compile_rounds-returns-clause-put : goal.compile_rounds-returns-clause-put
compile_rounds-returns-clause-put t c =
    puts_rounds (target_code (expression_of c.args.target.now)) (statements_in c.args.body.now) c.in_ok-asks.asks c.new-round.result c.compile_body.new.round
    c.in_ok-asks.ensures.place c.new-round.ensures.asks c.new-round.ensures.closings c.new-round.ensures.breaks c.in_ok-asks.ensures.put
    c.in_ok-store.ensures.put c.in_ok-compile_body.ensures.lowered c.in_ok-put.ensures.put c.land.ensures.landed c.land.ensures.same
    c.tell_breaks.ensures.told c.tell_breaks.ensures.same

pub compile_any-compile_condition-requires : goal.compile_any-compile_condition-requires
compile_any-compile_condition-requires t c =
    let s = c.args.statement.now in
    let n = c.in-IfCond.n in
    let tree = condition_is s n n.value.node c.in-IfCond.is refl in (
      omega (arith, condition_within s n n.value.node c.in-IfCond.is refl, c.decreases),
      subst (λ (x : Statement). IsRunnableStatement true x) tree c.requires,
    )

pub compile_any-returns-in-IfCond-clause-lowered : goal.compile_any-returns-in-IfCond-clause-lowered
compile_any-returns-in-IfCond-clause-lowered t c =
    let tree = condition_is c.args.statement.now c.in-IfCond.n c.in-IfCond.n.value.node c.in-IfCond.is refl in
    rw tree c.compile_condition.ensures.lowered

pub compile_any-compile_loop-requires : goal.compile_any-compile_loop-requires
compile_any-compile_loop-requires t c =
    let s = c.args.statement.now in
    let n = c.in-ForLoop.n in
    let v = c.deref-in-ForLoop.result.now.node in
    let is = ap (λ (l : Spanned ForLoopNode). l.node) c.deref-in-ForLoop.ensures in
    let body_is = ap (λ (l : ForLoopNode). l.body.items) is in
    let other_is = ap (λ (l : ForLoopNode). l.else_body.items) is in
    let runs : IsRunnableStatement true (loop_of v) =
    subst (λ (x : Statement). IsRunnableStatement true x) (loop_is s n v c.in-ForLoop.is is) c.requires in (
      omega (arith, loop_deep s n v.body.items c.in-ForLoop.is body_is, loop_other_deep s n v.else_body.items c.in-ForLoop.is other_is, c.decreases),
      (runs.0, (runs.1, (runs.2, (runs.3, runs.4)))),
    )

pub compile_any-returns-in-ForLoop-clause-lowered : goal.compile_any-returns-in-ForLoop-clause-lowered
compile_any-returns-in-ForLoop-clause-lowered t c =
    let v = c.deref-in-ForLoop.result.now.node in
    let is = ap (λ (l : Spanned ForLoopNode). l.node) c.deref-in-ForLoop.ensures in
    let tree = loop_is c.args.statement.now c.in-ForLoop.n v c.in-ForLoop.is is in
    rw tree c.compile_loop.ensures.lowered

pub compile_any-compile_set_block-requires : goal.compile_any-compile_set_block-requires
compile_any-compile_set_block-requires t c =
    let s = c.args.statement.now in
    let n = c.in-SetBlock.n in
    let target = c.deref-in-SetBlock.result.now.node.target in
    let filters = c.deref-in-SetBlock.result.now.node.filter in
    let body = c.deref-in-SetBlock-2.result.now in
    let body_is = c.deref-in-SetBlock-2.ensures.value ∙ ap (λ (b : Spanned SetBlockNode). b.node.body.items) c.deref-in-SetBlock.ensures in
    let tree = set_block_is s n target filters body c.in-SetBlock.is (ap (λ (b : Spanned SetBlockNode). b.node.target) c.deref-in-SetBlock.ensures)
    (ap (λ (b : Spanned SetBlockNode). b.node.filter) c.deref-in-SetBlock.ensures) body_is in
    let runs = set_block_runs (expression_of target) (optional_in filters) (statements_in body) (subst (λ (x : Statement). IsRunnableStatement true x) tree c.requires) in (
      omega (arith, set_block_deep s n body c.in-SetBlock.is body_is, c.decreases),
      (runs.0, (runs.1, runs.2)),
    )

pub compile_any-returns-in-SetBlock-clause-lowered : goal.compile_any-returns-in-SetBlock-clause-lowered
compile_any-returns-in-SetBlock-clause-lowered t c =
    let v = c.deref-in-SetBlock.result.now.node in
    let tree = set_block_is c.args.statement.now c.in-SetBlock.n v.target v.filter c.deref-in-SetBlock-2.result.now c.in-SetBlock.is
    (ap (λ (b : Spanned SetBlockNode). b.node.target) c.deref-in-SetBlock.ensures) (ap (λ (b : Spanned SetBlockNode). b.node.filter) c.deref-in-SetBlock.ensures)
    (c.deref-in-SetBlock-2.ensures.value ∙ ap (λ (b : Spanned SetBlockNode). b.node.body.items) c.deref-in-SetBlock.ensures) in
    rw tree c.compile_set_block.ensures.lowered

pub compile_any-compile_filter_block-requires : goal.compile_any-compile_filter_block-requires
compile_any-compile_filter_block-requires t c =
    let s = c.args.statement.now in
    let n = c.in-FilterBlock.n in
    let filters = c.deref-in-FilterBlock.result.now.node.filter in
    let body = c.deref-in-FilterBlock-2.result.now in
    let body_is = c.deref-in-FilterBlock-2.ensures.value ∙ ap (λ (b : Spanned FilterBlockNode). b.node.body.items) c.deref-in-FilterBlock.ensures in
    let tree = filter_block_is s n filters body c.in-FilterBlock.is (ap (λ (b : Spanned FilterBlockNode). b.node.filter) c.deref-in-FilterBlock.ensures) body_is in
    let runs : IsRunnableStatement true (filter_block (expression_of filters) (statements_in body)) =
    subst (λ (x : Statement). IsRunnableStatement true x) tree c.requires in (
      omega (arith, filter_block_deep s n body c.in-FilterBlock.is body_is, c.decreases),
      (runs.0, runs.1),
    )

pub compile_any-returns-in-FilterBlock-clause-lowered : goal.compile_any-returns-in-FilterBlock-clause-lowered
compile_any-returns-in-FilterBlock-clause-lowered t c =
    let tree = filter_block_is c.args.statement.now c.in-FilterBlock.n c.deref-in-FilterBlock.result.now.node.filter c.deref-in-FilterBlock-2.result.now
    c.in-FilterBlock.is (ap (λ (b : Spanned FilterBlockNode). b.node.filter) c.deref-in-FilterBlock.ensures)
    (c.deref-in-FilterBlock-2.ensures.value ∙ ap (λ (b : Spanned FilterBlockNode). b.node.body.items) c.deref-in-FilterBlock.ensures) in
    rw tree c.compile_filter_block.ensures.lowered

pub compile_any-compile_with-requires : goal.compile_any-compile_with-requires
compile_any-compile_with-requires t c =
    let s = c.args.statement.now in
    let n = c.in-WithBlock.n in
    let pairs = c.deref-in-WithBlock-2.result.now in
    let body = c.deref-in-WithBlock-4.result.now in
    let pairs_are = c.deref-in-WithBlock-2.ensures.value ∙ ap (λ (w : Spanned WithBlockNode). w.node.assignments.items) c.deref-in-WithBlock.ensures in
    let body_is = c.deref-in-WithBlock-4.ensures.value ∙ ap (λ (w : Spanned WithBlockNode). w.node.body.items) c.deref-in-WithBlock-3.ensures in
    let runs : IsRunnableStatement true (with_block (assignments_in pairs) (statements_in body)) =
    subst (λ (x : Statement). IsRunnableStatement true x) (with_is s n pairs body c.in-WithBlock.is pairs_are body_is) c.requires in (
      omega (arith, with_deep s n body c.in-WithBlock.is body_is, c.decreases),
      (runs.0, runs.1),
    )

pub compile_any-returns-in-WithBlock-clause-lowered : goal.compile_any-returns-in-WithBlock-clause-lowered
compile_any-returns-in-WithBlock-clause-lowered t c =
    let tree = with_is c.args.statement.now c.in-WithBlock.n c.deref-in-WithBlock-2.result.now c.deref-in-WithBlock-4.result.now c.in-WithBlock.is
    (c.deref-in-WithBlock-2.ensures.value ∙ ap (λ (w : Spanned WithBlockNode). w.node.assignments.items) c.deref-in-WithBlock.ensures)
    (c.deref-in-WithBlock-4.ensures.value ∙ ap (λ (w : Spanned WithBlockNode). w.node.body.items) c.deref-in-WithBlock-3.ensures) in
    rw tree c.compile_with.ensures.lowered

pub compile_any-compile_auto_escape-requires : goal.compile_any-compile_auto_escape-requires
compile_any-compile_auto_escape-requires t c =
    let s = c.args.statement.now in
    let n = c.in-AutoEscape.n in
    let enabled = c.deref-in-AutoEscape.result.now.node.enabled in
    let body = c.deref-in-AutoEscape-3.result.now in
    let body_is = c.deref-in-AutoEscape-3.ensures.value ∙ ap (λ (a : Spanned AutoEscapeNode). a.node.body.items) c.deref-in-AutoEscape-2.ensures in
    let runs : IsRunnableStatement true (auto_escape (expression_of enabled) (statements_in body)) =
    subst (λ (x : Statement). IsRunnableStatement true x)
    (escape_is s n enabled body c.in-AutoEscape.is (ap (λ (a : Spanned AutoEscapeNode). a.node.enabled) c.deref-in-AutoEscape.ensures) body_is) c.requires in (
      omega (arith, escape_deep s n body c.in-AutoEscape.is body_is, c.decreases),
      (runs.0, runs.1),
    )

pub compile_any-returns-in-AutoEscape-clause-lowered : goal.compile_any-returns-in-AutoEscape-clause-lowered
compile_any-returns-in-AutoEscape-clause-lowered t c =
    let tree = escape_is c.args.statement.now c.in-AutoEscape.n c.deref-in-AutoEscape.result.now.node.enabled c.deref-in-AutoEscape-3.result.now c.in-AutoEscape.is
    (ap (λ (a : Spanned AutoEscapeNode). a.node.enabled) c.deref-in-AutoEscape.ensures)
    (c.deref-in-AutoEscape-3.ensures.value ∙ ap (λ (a : Spanned AutoEscapeNode). a.node.body.items) c.deref-in-AutoEscape-2.ensures) in
    rw tree c.compile_auto_escape.ensures.lowered

pub compile_loop-returns-clause-lowered : goal.compile_loop-returns-clause-lowered
compile_loop-returns-clause-lowered t c = rw (sym c.deref.ensures.value, sym c.deref-2.ensures.value) (on_ok_weaker c.compile_loop_end.result (λ last.
    lowers_behind c.in_ok-compile_iterable.ensures.put
    (lowers_behind (puts_as (ap push_loop c.loop_flags.ensures) c.in_ok-put.ensures.put)
    (lowers_behind c.in_ok-compile_rounds.ensures.put last))) c.compile_loop_end.ensures.lowered)

pub compile_any-returns-in-EmitExpr-clause-lowered : goal.compile_any-returns-in-EmitExpr-clause-lowered
compile_any-returns-in-EmitExpr-clause-lowered t c =
    rw c.in-EmitExpr.is (on_ok_weaker c.compile_print.result (λ put. lowers_printed (expression_of c.in-EmitExpr.n.node.expr) c.args.round.now put) c.compile_print.ensures.put)

pub compile_any-unreachable-requires : goal.compile_any-unreachable-requires
compile_any-unreachable-requires t c = subst (λ (s : Stmt). IsRunnableStatement true (statement_of s)) c.in-Template.is c.requires

pub compile_any-compile_macro-requires : goal.compile_any-compile_macro-requires
compile_any-compile_macro-requires t c =
    let s = c.args.statement.now in
    let n = c.in-Macro.n in
    let v = c.deref-in-Macro.result.now.node in
    let is = ap (λ (m : Spanned MacroNode). m.node) c.deref-in-Macro.ensures in (
      omega (arith, macro_deep s n v.body.items c.in-Macro.is (ap (λ (m : MacroNode). m.body.items) is), c.decreases),
      subst (λ (x : Statement). IsRunnableStatement true x) (macro_is s n v c.in-Macro.is is) c.requires,
    )

pub compile_any-returns-in-Macro-clause-lowered : goal.compile_any-returns-in-Macro-clause-lowered
compile_any-returns-in-Macro-clause-lowered t c =
    let v = c.deref-in-Macro.result.now.node in
    let tree = macro_is c.args.statement.now c.in-Macro.n v c.in-Macro.is (ap (λ (m : Spanned MacroNode). m.node) c.deref-in-Macro.ensures) in
    rw tree (on_ok_weaker c.compile_macro.result (λ put. lowers_put c.args.round.now put) c.compile_macro.ensures.put)

pub compile_any-compile_call_block-requires : goal.compile_any-compile_call_block-requires
compile_any-compile_call_block-requires t c =
    let s = c.args.statement.now in
    let n = c.in-CallBlock.n in
    let call = c.deref-in-CallBlock-2.ensures ∙ ap (λ (b : Spanned CallBlockNode). (out-CallBlock b.node).call.value) c.deref-in-CallBlock.ensures in
    let declared = c.deref-in-CallBlock-4.ensures ∙ ap (λ (b : Spanned CallBlockNode). (out-CallBlock b.node).macro_decl.value) c.deref-in-CallBlock-3.ensures in (
      omega (arith, call_block_deep s n c.deref-in-CallBlock-4.result.now c.in-CallBlock.is declared, c.decreases),
      subst (λ (x : Statement). IsRunnableStatement true x)
          (call_block_is s n c.deref-in-CallBlock-2.result.now c.deref-in-CallBlock-4.result.now c.in-CallBlock.is call declared) c.requires,
    )

pub compile_any-returns-in-CallBlock-clause-lowered : goal.compile_any-returns-in-CallBlock-clause-lowered
compile_any-returns-in-CallBlock-clause-lowered t c =
    let call = c.deref-in-CallBlock-2.ensures ∙ ap (λ (b : Spanned CallBlockNode). (out-CallBlock b.node).call.value) c.deref-in-CallBlock.ensures in
    let declared = c.deref-in-CallBlock-4.ensures ∙ ap (λ (b : Spanned CallBlockNode). (out-CallBlock b.node).macro_decl.value) c.deref-in-CallBlock-3.ensures in
    let tree = call_block_is c.args.statement.now c.in-CallBlock.n c.deref-in-CallBlock-2.result.now c.deref-in-CallBlock-4.result.now
    c.in-CallBlock.is call declared in
    rw tree (on_ok_weaker c.compile_call_block.result (λ put. lowers_put c.args.round.now put) c.compile_call_block.ensures.put)

pub compile_macro-returns-clause-put : goal.compile_macro-returns-clause-put
compile_macro-returns-clause-put t c = on_ok_weaker c.put.result (λ stored. puts_then c.in_ok-compile_declared.ensures.put stored) c.put.ensures.put

pub compile_call_block-returns-clause-put : goal.compile_call_block-returns-clause-put
compile_call_block-returns-clause-put t c = on_ok_weaker c.put.result (λ printed. puts_then c.in_ok-compile_called.ensures.put printed) c.put.ensures.put

pub compile_called-compile_call-requires : goal.compile_called-compile_call-requires
compile_called-compile_call-requires t c = c.requires.0

pub compile_called-compile_with_caller-requires : goal.compile_called-compile_with_caller-requires
compile_called-compile_with_caller-requires t c =
    (omega (arith, c.decreases), (c.requires.0, (c.requires.1, c.requires.2, c.requires.3)))

pub compile_called-returns-in-Block-clause-put : goal.compile_called-returns-in-Block-clause-put
compile_called-returns-in-Block-clause-put t c =
    let call = c.args.call.now.node in
    on_ok_weaker c.compile_call.result (λ put.
    puts_block_called (expression_of call.expr) (arguments_in call.args.items) c.in-Block.field-0.now (caller_of c.args.declared.now.node)
    (sym c.identify_call.ensures ∙ ap (λ (k : CallType). called k) c.in-Block.is) put) c.compile_call.ensures.put

pub compile_called-returns-in_default-clause-put : goal.compile_called-returns-in_default-clause-put
compile_called-returns-in_default-clause-put t c =
    let call = c.args.call.now.node in
    on_ok_weaker c.compile_with_caller.result (λ put.
    puts_with_caller (expression_of call.expr) (arguments_in call.args.items) (caller_of c.args.declared.now.node)
    (λ name is. never_block c.identify_call.result c.in_default.not-Block name (c.identify_call.ensures ∙ is)) put) c.compile_with_caller.ensures.put

pub compile_with_caller-returns-clause-put : goal.compile_with_caller-returns-clause-put
compile_with_caller-returns-clause-put t c = on_ok_weaker c.end_call.result (λ last.
    puts_then c.in_ok-begun.ensures.put (puts_then c.in_ok-compile_declared.ensures.put last)) c.end_call.ensures.put

pub compile_declared-store_parameters-requires : goal.compile_declared-store_parameters-requires
compile_declared-store_parameters-requires t c =
    let runs : IsRunnableStatement true (macro_of c.args.declared.now) = search rules in
    record {
      arguments = subst (λ (es : List Expr). AreTargets (expressions_in es)) (sym c.deref.ensures.value) runs.0;
      defaults = subst (λ (es : List Expr). AreRunnable (expressions_in es)) (sym c.deref-2.ensures.value) runs.1;
    }

pub compile_declared-compile_body-requires : goal.compile_declared-compile_body-requires
compile_declared-compile_body-requires t c =
    let runs : IsRunnableStatement true (macro_of c.args.declared.now) = search rules in
    let deep : 8 * body_deep c.args.declared.now.body.items + 3 ≡ t = search rules in
    let same = ap (λ (ss : List Stmt). body_deep ss) c.deref-3.ensures.value in (
      omega (arith, same, deep),
      looser_statements false (statements_in c.deref-3.result.now)
          (subst (λ (ss : List Stmt). AreRunnableStatements false (statements_in ss)) (sym c.deref-3.ensures.value) runs.2),
    )

pub compile_declared-returns-clause-put : goal.compile_declared-returns-clause-put
compile_declared-returns-clause-put t c =
    let m = c.args.declared.now in
    let stored = subst (λ (ds : List Expr). Puts (parameters_code (backwards m.args.items) (backwards ds)) c.reserve.new.code c.store_parameters.new.code) c.deref-2.ensures.value
    (subst (λ (es : List Expr). Puts (parameters_code (backwards es) (backwards c.deref-2.result.now)) c.reserve.new.code c.store_parameters.new.code)
    c.deref.ensures.value c.in_ok-store_parameters.ensures.put) in
    let body = subst (λ (ss : List Stmt). Puts (statements_code no_ways (statements_in ss)) c.store_parameters.new.code c.compile_body.new.code) c.deref-3.ensures.value
    (puts_whole_body (statements_in c.deref-3.result.now) c.new-round.result c.compile_body.new.round c.new-round.ensures.asks c.new-round.ensures.closings
    c.in_ok-compile_body.ensures.lowered) in
    let landed = landed_at Always c.in_ok-leap.leap (code_in c.args.code.now) (code_in c.put.new.code) (code_in c.land.new.code)
    c.in_ok-leap.ensures.place c.land.ensures.landed in
    on_ok_weaker c.make_macro.result (λ made.
    puts_declared c.args.name.now m c.len-begins.result c.len-begins.ensures.len c.in_ok-leap.ensures.put stored body c.in_ok-put.ensures.put landed c.land.ensures.same made) c.make_macro.ensures.put
