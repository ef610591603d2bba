-- Those that are taken so far, and those of what is left.
use Rattle.std.proofs.Common.{◌≡◌, ◌≤◌, ◌+◌, ◌*◌, ◌++◌, drop}
use Rattle.template_compiler_tree_statements.specs.View.{statement_of}
use Rattle.template_compiler_tree_statements.specs.declared.statements.Stmt.{size-Stmt}
use Rattle.template_compiler_tree_parts.specs.Bodies.{body_deep}
use Rattle.template_compiler_tree_parts.specs.Listed.{statements_in}
use Rattle.template_compiler_tree_parts.specs.Within.{picked_among, picked_of, trees_of}
use Rattle.template_compiler_tree_parts.proofs.picking.+walk.Given as goal

abbrev pub decreases-take_among : goal.decreases-take_among
decreases-take_among g l = 2 * body_deep l.body.now

abbrev pub decreases-take_of : goal.decreases-take_of
decreases-take_of g l = 2 * size-Stmt l.statement.now + 1

abbrev pub invariant-take_among-loop-statement : goal.invariant-take_among-loop-statement
invariant-take_among-loop-statement g l =
    trees_of l.taken.items ++ picked_among g.P.Picks.picks g.P.Picks.enters (statements_in (drop l.statement-index l.body)) ≡
    trees_of l.initial.taken.items ++ picked_among g.P.Picks.picks g.P.Picks.enters (statements_in l.body)

abbrev pub invariant-take_of-loop-taken : goal.invariant-take_of-loop-taken
invariant-take_of-loop-taken g l = record {
  taken : trees_of l.taken.items ++ picked_of g.P.Picks.picks g.P.Picks.enters (statement_of l.at) ≡
      trees_of l.initial.taken.items ++ picked_of g.P.Picks.picks g.P.Picks.enters (statement_of l.fn.statement);
  deep : size-Stmt l.at ≤ size-Stmt l.fn.statement;
}

abbrev pub decreases-take_of-loop-taken : goal.decreases-take_of-loop-taken
decreases-take_of-loop-taken g l = size-Stmt l.at
