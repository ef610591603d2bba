use Rattle.std.proofs.Common.{rules}
use Rattle.template_machine_environment.proofs.environment.Environment.add_template_owned.Goals as goal

pub returns-in_err-copied-clause-plain : goal.returns-in_err-copied-clause-plain
returns-in_err-copied-clause-plain g c = λ plain.
    let room = c.in_err-copied.ensures.plain plain in
    search rules
