use Rattle.std.proofs.Common.{sym, ◌∙◌}
use Rattle.template_compiler_code.specs.Listing.{code_in}
use Rattle.template_compiler_code_shapes.specs.Outlines.{shape_of}
use Rattle.template_compiler_code_shapes.proofs.WayLemmas.{swaps_row, swaps_values}
use Rattle.template_compiler_code_shapes.proofs.ways.swap_ways.Goals as goal

pub returns-then-has_under-clause-ways : goal.returns-then-has_under-clause-ways
returns-then-has_under-clause-ways c =
    c.in_ok-row.ensures.ways ∙ sym (swaps_row (code_in c.args.code.now) c.args.place (shape_of c.args.shape) (sym c.has_under.ensures ∙ c.if-has_under.true))

pub returns-clause-ways : goal.returns-clause-ways
returns-clause-ways c =
    let s = shape_of c.args.shape in
    c.in_ok-values.ensures.ways ∙ sym (swaps_values (code_in c.args.code.now) c.args.place s s.operands (sym c.has_under.ensures ∙ c.if-has_under.false))
