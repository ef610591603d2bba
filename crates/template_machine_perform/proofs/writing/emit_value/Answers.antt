use Rattle.std.proofs.Common.{◌∷◌, refl, subst}
use Rattle.template_values_forms.specs.Escaped.{escaped}
use Rattle.template_compiler_code.specs.Code.{single}
use Rattle.template_machine_meaning.specs.Records.{known_of}
use Rattle.template_machine_meaning.specs.Replies.{guarded, kinded}
use Rattle.template_machine_meaning.specs.Undefined.{forbids_printing}
use Rattle.template_machine_operations.specs.Outcomes.{Prints}
use Rattle.template_machine_steps.specs.Performs.{ruled}
use Rattle.template_machine_perform.proofs.Texts.{print_out}
use Rattle.template_machine_perform.proofs.writing.emit_value.Goals as goal

pub returns-clause-steps : goal.returns-clause-steps
returns-clause-steps g c program limit below plain =
    print_out (ruled program limit c.args.mode) c.args.value.now (single c.args.value.now ∷ below) below c.args.state.now _ _ _ plain refl c.requires
    (subst (λ e. Prints (guarded (forbids_printing c.args.mode c.args.value.now) (kinded (escaped e (known_of c.args.state.now) c.args.value.now))) c.print.result (g.S.Sink.taken c.args.sink.now) (g.S.Sink.taken c.print.new.sink)) c.auto_escape-escape.ensures c.print.ensures.written)
