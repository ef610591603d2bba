use Rattle.std.proofs.Common.{[], Option, ap, option_map}
use Rattle.template_machine_meaning.specs.Keys as keys
use Rattle.template_machine_meaning.specs.Keys.{own}
use Rattle.template_machine_loop.specs.Programs as units
use Rattle.template_machine_loop.specs.Programs.{kept_of, standing_of}
use Rattle.template_machine_loop.specs.Runs.{straying}
use Rattle.template_machine_loop.specs.declared.templates.Compiled.{Compiled}
use Rattle.template_machine_renders.proofs.Rootless.{stray_rootless}
use Rattle.template_machine_renders.proofs.running.run_template.Goals as goal

pub returns-in-None-clause-runs : goal.returns-in-None-clause-runs
returns-in-None-clause-runs g c =
    let program = c.args.program in
    straying ([], c.new.ensures)
    (stray_rootless (g.T.Templates.standing program.templates.now) (g.T.Templates.joins program.templates.now) (g.T.Callbacks.callables program.templates.now)
    program.root (option_map kept_of program.kept) program.rules c.args.state.now c.in-None.is)

pub returns-in-Some-clause-runs : goal.returns-in-Some-clause-runs
returns-in-Some-clause-runs g c =
    c.run_whole.ensures.runs (own keys.rendered)
    (ap (λ (root : Option Compiled). option_map (λ (t : units.Standing). t.code) (option_map standing_of root)) c.in-Some.is)
