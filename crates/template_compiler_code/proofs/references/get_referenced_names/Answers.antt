use Rattle.std.proofs.Common.{◌-◌, sym, ◌∙◌, arith}
use Rattle.template_compiler_code.specs.Listing.{code_in}
use Rattle.template_compiler_code.specs.References.{names_before}
use Rattle.template_compiler_code.proofs.Behind.{texts, still_outside, still_within}
use Rattle.template_compiler_code.proofs.references.get_referenced_names.Goals as goal

pub loop-left-preserved-else-jumps_to : goal.loop-left-preserved-else-jumps_to
loop-left-preserved-else-jumps_to c =
    let code = code_in c.args.code.now in
    let left = c.loop-left.left in
    record {
      within = omega (arith, c.loop-left.invariant.within, c.loop-left-test.true);
      names = still_within code (texts c.loop-left.names.items) (names_before code c.args.index) c.loop-left.body c.in-Some.end (left - 1) left c.in-Some.is
          (omega (arith, c.loop-left-test.true)) (sym c.jumps_to.ensures ∙ c.if-jumps_to.false) c.loop-left.invariant.names;
    }

pub loop-left-preserved : goal.loop-left-preserved
loop-left-preserved c =
    let code = code_in c.args.code.now in
    let left = c.loop-left.left in
    record {
      within = omega (arith, c.loop-left.invariant.within, c.loop-left-test.true);
      names = still_outside code (texts c.loop-left.names.items) (texts c.add_name_at-else-is_opening-2.new.names.items) (names_before code c.args.index)
          c.loop-left.body (left - 1) left c.in-None.is (omega (arith, c.loop-left-test.true)) (sym c.returns.ensures ∙ c.if-returns.false)
          (sym c.is_opening-else-returns.ensures ∙ c.if-is_opening-2.false) c.in_ok-add_name_at-in-None.ensures.added c.loop-left.invariant.names;
    }
