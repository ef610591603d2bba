use Rattle.std.proofs.Common.{◌<◌, ◌≤◌, length, [], ◌++◌, append_assoc, append-nil, arith, ap, ◌∙◌}
use Rattle.template_compiler_tree_parts.specs.Within.{joined}
use Rattle.template_compiler_tree_parts.proofs.Picked.{all_done, one_more}
use Rattle.template_compiler_tree_parts.specs.Listed.{statements_in}
use Rattle.template_compiler_names_closures.specs.Bodies.{own_part}
use Rattle.template_compiler_names_closures.specs.Units.{parts_in}
use Rattle.template_compiler_names_closures.proofs.Taking.{units_said}
use Rattle.template_compiler_names_closures.proofs.listing.units_among.Goals as goal

pub loop-i-preserved : goal.loop-i-preserved
loop-i-preserved c =
    let found = c.in_ok-statements.statements.items in
    let counted = c.len-i-end.ensures in
    let within : c.loop-i.i < length found = omega (arith, counted, c.in_ok-statements.statements.ok.0) in
    one_more [] ◌++◌ append_assoc append-nil own_part (parts_in c.loop-i.found.items) (parts_in c.take_own.new.found.items) found c.loop-i.i c.index.result.now
    within c.index.ensures c.in_ok-take_own.ensures c.loop-i.invariant

pub returns : goal.returns
returns c =
    let found = c.in_ok-statements.statements.items in
    let counted = c.len-i-end.ensures in
    let past : length found ≤ c.loop-i.i = omega (arith, counted, c.in_ok-statements.statements.ok.0) in
    all_done [] ◌++◌ append_assoc append-nil own_part (parts_in c.loop-i.found.items) found c.loop-i.i past c.loop-i.invariant ∙
    ap (joined [] ◌++◌ own_part) c.in_ok-statements.ensures ∙ units_said (statements_in c.args.body.now)
