use Rattle.std.proofs.Common.{suc, ◌∷◌, sym, subst}
use Rattle.template_compiler_code.specs.Code as codes
use Rattle.template_compiler_code.specs.Code.{closure}
use Rattle.template_machine_meaning.specs.Surroundings.{answer}
use Rattle.template_machine_meaning.proofs.RunsKept.{world_stays}
use Rattle.template_machine_going.specs.Acts.{Acts}
use Rattle.template_machine_operands.specs.Operands.{operands_in}
use Rattle.template_machine_steps.specs.Performs.{spot}
use Rattle.template_machine_steps.proofs.Stepping.{put_out}
use Rattle.template_machine_perform.proofs.Straying.{none_there, closure_astray, astray_out}
use Rattle.template_machine_perform.proofs.Scoping.{closure_given}
use Rattle.template_machine_perform.proofs.macros.get_closure.Goals as goal

pub returns-then-not-has_frame : goal.returns-then-not-has_frame
returns-then-not-has_frame c s =
    astray_out s codes.get_closure _ c.args.state.now _ _ _ _ (world_stays c.args.state.now)
    (λ before place left taken. closure_astray s before (spot place (operands_in c.args.operands.now) c.args.state.now left taken) (none_there _ _ c.has_frame.ensures c.if-not-has_frame.true)) c.new.ensures

pub returns : goal.returns
returns c s =
    put_out s codes.get_closure _ c.args.state.now _ _ _ c.args.state.now (closure c.closure.result ∷ operands_in c.args.operands.now)
    (λ before place left taken.
    subst (λ n. Acts (answer s) before codes.get_closure (spot place (operands_in c.args.operands.now) c.args.state.now left taken) (spot (suc place) (closure n ∷ operands_in c.args.operands.now) c.args.state.now left taken))
    (sym c.closure.ensures)
    (closure_given s before (spot place (operands_in c.args.operands.now) c.args.state.now left taken) (c.has_frame.ensures.0 c.if-not-has_frame.false)))
    c.push_closure.ensures.pushed c.push_closure.ensures.refused
