use Rattle.std.proofs.Common.{suc, sym, subst, ◌∙◌}
use Rattle.template_compiler_code.specs.Code as codes
use Rattle.template_machine_meaning.specs.Surroundings.{answer}
use Rattle.template_machine_meaning.proofs.RunsKept.{world_stays}
use Rattle.template_machine_going.specs.Acts.{Acts}
use Rattle.template_machine_steps.specs.Performs.{spot}
use Rattle.template_machine_perform.proofs.Straying.{close_frame_astray, astray_out}
use Rattle.template_machine_perform.proofs.Scoping.{own_some, closed_acts}
use Rattle.template_machine_perform.proofs.frames.pop_frame.Goals as goal

pub close_frame-requires : goal.close_frame-requires
close_frame-requires c = own_some c.args.state.now (sym c.has_own_frame.ensures ∙ c.if-not-has_own_frame.false)

pub returns-then-not-has_own_frame : goal.returns-then-not-has_own_frame
returns-then-not-has_own_frame c s operands =
    astray_out s codes.pop_frame operands c.args.state.now _ _ _ _ (world_stays c.args.state.now)
    (λ before place left taken. close_frame_astray s before (spot place operands c.args.state.now left taken) (sym c.has_own_frame.ensures ∙ c.if-not-has_own_frame.true)) c.new.ensures

pub returns : goal.returns
returns c s operands = record {
  spares = tt;
  keeps = tt;
  out = λ before place left taken. subst (λ t. Acts (answer s) before codes.pop_frame (spot place operands c.args.state.now left taken) (spot (suc place) operands t left taken)) (sym c.close_frame.ensures)
      (closed_acts s before (spot place operands c.args.state.now left taken) (sym c.has_own_frame.ensures ∙ c.if-not-has_own_frame.false));
}
