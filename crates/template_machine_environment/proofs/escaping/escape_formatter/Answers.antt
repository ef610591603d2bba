use Rattle.std.proofs.Common.{subst}
use Rattle.template_values_errors.specs.declared.modes.AutoEscape.{AutoEscape}
use Rattle.template_values_forms.specs.Escaped.{escaped}
use Rattle.template_machine_meaning.specs.Records.{known_of}
use Rattle.template_machine_meaning.specs.Replies.{kinded}
use Rattle.template_machine_operations.specs.Outcomes.{Prints}
use Rattle.template_machine_environment.proofs.escaping.escape_formatter.Goals as goal

pub returns-clause-written : goal.returns-clause-written
returns-clause-written g c =
    let world = c.args.state.now.machine in
    let before = g.S.Sink.taken c.args.sink.now in
    let after = g.S.Sink.taken c.print.new.sink in
    subst (λ (rule : AutoEscape). Prints (kinded (escaped rule (known_of world) c.args.value.now)) c.print.result before after)
    c.auto_escape.ensures c.print.ensures.written
