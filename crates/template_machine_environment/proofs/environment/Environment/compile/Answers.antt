use Rattle.std.proofs.Common.{rules}
use Rattle.template_machine_environment.proofs.Sourced.{read_so}
use Rattle.template_machine_environment.proofs.environment.Environment.compile.Goals as goal

pub returns-clause-source : goal.returns-clause-source
returns-clause-source g c =
    let made = c.in_ok-compiled.ensures in
    let kept = c.ruled.ensures in
    read_so _ c.args.self.now.extensions.rule c.args.self.now.registry.config c.in_ok-compiled.compiled c.ruled.result.source c.args.name.now c.args.source.now
    made.name made.source kept.text kept.syntax kept.escapes

pub returns-in_err-compiled-clause-plain : goal.returns-in_err-compiled-clause-plain
returns-in_err-compiled-clause-plain g c = λ plain.
    let room = c.in_err-compiled.ensures.plain plain in
    search rules
