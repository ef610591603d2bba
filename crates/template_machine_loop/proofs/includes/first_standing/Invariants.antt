use Rattle.std.proofs.Common.{◌≡◌, drop}
use Rattle.template_machine_meaning.specs.Includes.{first_standing}
use Rattle.template_machine_loop.specs.Programs.{programs_in}
use Rattle.template_machine_loop.proofs.includes.first_standing.Given as goal

abbrev pub invariant-loop-place : goal.invariant-loop-place
invariant-loop-place g l =
    let templates = l.program.templates.now in
    let s = programs_in g.T.Templates.standing g.T.Templates.joins g.T.Callbacks.callables l.program in
    first_standing s.around l.here l.choices ≡ first_standing s.around l.here (drop l.place l.choices)
