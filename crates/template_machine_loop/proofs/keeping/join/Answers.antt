use Rattle.std.proofs.Common.{None, Err, refl, sym, subst}
use Rattle.template_compiler_code.specs.Code as codes
use Rattle.template_compiler_code.specs.Listing.{code_in}
use Rattle.template_compiler_tree.specs.declared.operators.BinOpKind.TheVariants.{Concat}
use Rattle.template_machine_meaning.specs.Surroundings.{answer}
use Rattle.template_machine_meaning.specs.World.{World}
use Rattle.template_machine_going.specs.Goings.{Goes}
use Rattle.template_machine_going.specs.declared.stop.Stop.TheVariants.{Want}
use Rattle.template_machine_going.proofs.Going.{goes_nowhere}
use Rattle.template_machine_operands.specs.Operands.{operands_in}
use Rattle.template_machine_steps.specs.Performs.{ruled, spot}
use Rattle.template_machine_loop.specs.Runs.{Advances}
use Rattle.template_machine_loop.proofs.Following.{advances_then}
use Rattle.template_machine_loop.proofs.Onward.{performed_onward, spares_onward}
use Rattle.template_machine_loop.proofs.Stretching.{stretch_short}
use Rattle.template_machine_loop.proofs.keeping.join.Goals as goal

pub returns-in_default-clause-advances : goal.returns-in_default-clause-advances
returns-in_default-clause-advances c program limit taken at =
    subst (λ ks. Advances (ruled program limit c.args.mode) (code_in c.args.code.now) c.args.place (operands_in c.args.operands.now) c.args.state.now None taken
    (Err (Want ks)) (operands_in c.grow.new.operands) c.grow.new.state None taken) (sym c.new.ensures)
    (stretch_short (ruled program limit c.args.mode) (code_in c.args.code.now) c.args.place c.args.place (operands_in c.args.operands.now)
    (operands_in c.args.operands.now) (operands_in c.grow.new.operands) c.args.state.now c.args.state.now c.grow.new.state taken (c.in_default.ensures program limit)
    (goes_nowhere World _ (code_in c.args.code.now) _))

pub returns-then-next-place-clause-advances : goal.returns-then-next-place-clause-advances
returns-then-next-place-clause-advances c program limit taken at = record { out = c.in-Some.ensures program limit taken; keeps = tt }

pub returns-clause-advances : goal.returns-clause-advances
returns-clause-advances c program limit taken at =
    let s = ruled program limit c.args.mode in
    advances_then s (code_in c.args.code.now) c.args.place c.args.place _ _ _ _ _ _ taken taken taken c.onward.result
    (subst (λ p. Goes (answer s) (code_in c.args.code.now) (spot c.args.place (operands_in c.args.operands.now) c.args.state.now None taken)
    (spot p (operands_in c.grow.new.operands) c.grow.new.state None taken)) c.if-next-place.false (c.in-Some.ensures program limit taken))
    (performed_onward s (code_in c.args.code.now) (codes.operate Concat) (codes.operate Concat) c.args.place _ _ _ _ taken c.operate-joined.result c.told_by.result
    c.onward.result at refl (c.operate-joined.ensures program limit c.grow.new.state refl) c.told_by.ensures c.onward.ensures)

pub returns-clause-spares : goal.returns-clause-spares
returns-clause-spares c = spares_onward c.args.place c.operate-joined.result c.told_by.result c.onward.result c.told_by.ensures c.onward.ensures
