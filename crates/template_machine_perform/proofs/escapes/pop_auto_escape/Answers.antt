use Rattle.std.proofs.Common.{suc, sym, subst}
use Rattle.template_compiler_code.specs.Code as codes
use Rattle.template_machine_meaning.specs.Surroundings.{answer}
use Rattle.template_machine_meaning.proofs.RunsKept.{world_stays}
use Rattle.template_machine_going.specs.Acts.{Acts}
use Rattle.template_machine_acts.proofs.Framing.{close_escape_acts}
use Rattle.template_machine_steps.specs.Performs.{spot}
use Rattle.template_machine_perform.proofs.Straying.{none_there, close_escape_astray, astray_out}
use Rattle.template_machine_perform.proofs.escapes.pop_auto_escape.Goals as goal

pub returns-then-not-has_escape : goal.returns-then-not-has_escape
returns-then-not-has_escape c s operands =
    astray_out s codes.pop_auto_escape operands c.args.state.now _ _ _ _ (world_stays c.args.state.now)
    (λ before place left taken. close_escape_astray s before (spot place operands c.args.state.now left taken) (none_there _ _ c.has_escape.ensures c.if-not-has_escape.true)) c.new.ensures

pub returns : goal.returns
returns c s operands = record {
  spares = tt;
  keeps = tt;
  out = λ before place left taken. subst (λ t. Acts (answer s) before codes.pop_auto_escape (spot place operands c.args.state.now left taken) (spot (suc place) operands t left taken)) (sym c.close_escape.ensures.rest)
      (close_escape_acts s before (spot place operands c.args.state.now left taken) _ _ c.close_escape.ensures.escape);
}
