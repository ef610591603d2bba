use Rattle.std.proofs.Common.{◌≡◌, ◌<◌, ◌≤◌, length, ◌++◌, refl, sym, ap, ◌∙◌, arith}
use Rattle.template_compiler_tree_statements.specs.View.{statement_of}
use Rattle.template_compiler_tree_statements.specs.declared.statements.Stmt.{size-Stmt}
use Rattle.template_compiler_tree_parts.specs.Bodies.{body_deep}
use Rattle.template_compiler_tree_parts.specs.Listed.{statements_in}
use Rattle.template_compiler_tree_parts.specs.Within.{picked_among, trees_of}
use Rattle.template_compiler_tree_parts.proofs.Deep.{body_falls, deep_at, item_falls}
use Rattle.template_compiler_tree_parts.proofs.Picked.{body_done, body_item, body_passed, else_left, ends, left_out, only}
use Rattle.template_compiler_tree_parts.proofs.picking.+walk.Goals as goal
use Rattle.template_compiler_tree_parts.proofs.picking.+walk.Goals.{take_among-then-not-is_printed+in_ok-take_of, take_among-else-not-is_printed}

pub take_of-take_among-requires : goal.take_of-take_among-requires
take_of-take_among-requires g t c κs within =
    (body_falls _ _ (size-Stmt c.args.statement.now) t c.body_of.ensures.deep c.loop-taken.invariant.deep c.decreases, within)

pub take_of-take_among-requires-then-other-ne1 : goal.take_of-take_among-requires-then-other-ne1
take_of-take_among-requires-then-other-ne1 g t c κs within =
    (body_falls _ _ (size-Stmt c.args.statement.now) t c.other_of-other.ensures.deep c.loop-taken.invariant.deep c.decreases, within)

pub take_of-returns-then-not-enters : goal.take_of-returns-then-not-enters
take_of-returns-then-not-enters g t c =
    left_out g.P.Picks.picks g.P.Picks.enters (trees_of c.loop-taken.taken.items) (trees_of c.take_one.new.taken.items) (statement_of c.loop-taken.at.now)
    (sym c.enters.ensures ∙ c.if-not-enters.true) c.in_ok-take_one.ensures c.loop-taken.invariant.taken

pub take_of-returns-then-other-ne1 : goal.take_of-returns-then-other-ne1
take_of-returns-then-other-ne1 g t c =
    ends (trees_of c.take_among.new.taken.items) _ (picked_among g.P.Picks.picks g.P.Picks.enters (statements_in c.other_of-other.result.now))
    c.take_among-then-other-ne1.result c.take_among-then-other-ne1.ensures
    (else_left g.P.Picks.picks g.P.Picks.enters (trees_of c.loop-taken.taken.items) (trees_of c.take_one.new.taken.items) (trees_of c.take_among.new.taken.items)
    (statement_of c.loop-taken.at.now) (statements_in c.body_of.result.now) (statements_in c.other_of-other.result.now)
    (sym c.enters.ensures ∙ c.if-not-enters.false) c.body_of.ensures.body c.other_of-other.ensures.body
    c.in_ok-take_one.ensures c.in_ok-take_among.ensures c.loop-taken.invariant.taken)

pub take_of-loop-taken-init : goal.take_of-loop-taken-init
take_of-loop-taken-init g t c = record {
  taken = refl;
  deep = omega arith;
}

pub take_of-loop-taken-preserved : goal.take_of-loop-taken-preserved
take_of-loop-taken-preserved g t c =
    let items = c.other_of-other.result.now in
    let tested = c.if-other-ne1.false in
    let one : length items ≡ 1 = omega (arith, tested) in
    let within : size-Stmt c.index-other-0.result < body_deep items = deep_at items 0 c.index-other-0.result (omega (arith, one)) c.index-other-0.is in
    let less : body_deep items ≤ size-Stmt c.loop-taken.at.now = c.other_of-other.ensures.deep in
    let deep : size-Stmt c.loop-taken.at.now ≤ size-Stmt c.args.statement.now = c.loop-taken.invariant.deep in
    record {
      taken = ap (λ ss. trees_of c.take_among.new.taken.items ++ ss) (only g.P.Picks.picks g.P.Picks.enters items c.index-other-0.result one c.index-other-0.is) ∙
          else_left g.P.Picks.picks g.P.Picks.enters (trees_of c.loop-taken.taken.items) (trees_of c.take_one.new.taken.items) (trees_of c.take_among.new.taken.items)
          (statement_of c.loop-taken.at.now) (statements_in c.body_of.result.now) (statements_in c.other_of-other.result.now)
          (sym c.enters.ensures ∙ c.if-not-enters.false) c.body_of.ensures.body c.other_of-other.ensures.body
          c.in_ok-take_one.ensures c.in_ok-take_among.ensures c.loop-taken.invariant.taken;
      deep = omega (arith, within, less, deep);
    }

pub take_of-loop-taken-smaller : goal.take_of-loop-taken-smaller
take_of-loop-taken-smaller g t c =
    let items = c.other_of-other.result.now in
    let tested = c.if-other-ne1.false in
    let one : length items ≡ 1 = omega (arith, tested) in
    let within : size-Stmt c.index-other-0.result < body_deep items = deep_at items 0 c.index-other-0.result (omega (arith, one)) c.index-other-0.is in
    let less : body_deep items ≤ size-Stmt c.loop-taken.at.now = c.other_of-other.ensures.deep in
    omega (arith, within, less)

pub take_among-take_of-requires : goal.take_among-take_of-requires
take_among-take_of-requires g t c κs within = (
  item_falls _ (body_deep c.args.body.now) t
      (deep_at c.args.body.now c.loop-statement.statement-index c.statement-item.result (omega arith) c.statement-item.is) c.decreases,
  within,
)

pub take_among-loop-statement-preserved : goal.take_among-loop-statement-preserved
take_among-loop-statement-preserved g t c =
    elim c.if-not-is_printed.branch [
      | take_among-then-not-is_printed+in_ok-take_of w ↦
          rw w.taken-is (body_item g.P.Picks.picks g.P.Picks.enters (trees_of c.loop-statement.taken.items) (trees_of w.take_of.new.taken.items) c.args.body.now
          c.loop-statement.statement-index c.statement-item.result (omega arith) c.statement-item.is w.in_ok-take_of.ensures
          c.loop-statement.invariant)
      | take_among-else-not-is_printed w ↦
          rw w.taken-is (body_passed g.P.Picks.picks g.P.Picks.enters (trees_of c.loop-statement.taken.items) c.args.body.now c.loop-statement.statement-index
          c.statement-item.result (omega arith) c.statement-item.is g.met.P.Picks.passes_text g.met.P.Picks.passes_print
          (c.is_printed.ensures w.if-not-is_printed.false) c.loop-statement.invariant)
    ]

pub take_among-returns : goal.take_among-returns
take_among-returns g t c =
    body_done g.P.Picks.picks g.P.Picks.enters (trees_of c.loop-statement.taken.items) c.args.body.now c.loop-statement.statement-index
    c.loop-statement-test.false c.loop-statement.invariant
