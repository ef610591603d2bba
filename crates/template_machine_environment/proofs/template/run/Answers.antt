use Rattle.std.proofs.Common.{ℕ, Option, inl, refl, sym, subst, ◌∙◌}
use Rattle.std.proofs.lemmas.Result.{err_from_is_err_and}
use Rattle.template_compiler_process.specs.Trace.{price_of}
use Rattle.template_machine_going.specs.Paying.{Paid}
use Rattle.template_machine_surroundings.proofs.Beginnings.{beginning_none}
use Rattle.template_machine_environment.specs.Extras.{user_answers}
use Rattle.template_machine_environment.specs.Reading.{brought_of}
use Rattle.template_machine_environment.specs.Renderings.{broken, left_of, whole}
use Rattle.template_machine_environment.proofs.Capturing.{none_failed, run_stopped, stop_answers}
use Rattle.template_machine_environment.proofs.Rendering.{render_done, render_stopped, run_of}
use Rattle.template_machine_environment.proofs.Told.{paid_no_more}
use Rattle.template_machine_environment.proofs.template.run.Goals as goal

pub returns-in_err-machine-clause-renders : goal.returns-in_err-machine-clause-renders
returns-in_err-machine-clause-renders g c = λ n finished.
    let p = err_from_is_err_and c.from_residual.result c.from_residual.ensures.1 in
    rw (p.1, p.2)
    (broken (inl (c.in_err-machine.ensures.refused, refl)) (beginning_none _ _))

pub returns-in_err-machine-clause-failures : goal.returns-in_err-machine-clause-failures
returns-in_err-machine-clause-failures g c = none_failed c.from_residual.result _

pub returns-clause-failures : goal.returns-clause-failures
returns-clause-failures g c = stop_answers (Unit {0}) (Unit {0}) c.in-Err.stop c.into_error.result _ _ c.into_error.ensures c.in-Err.ensures.failures

pub returns-clause-renders : goal.returns-clause-renders
returns-clause-renders g c = λ n finished.
    let registry = c.args.environment.now.registry in
    let says = (user_answers g.E.Callable.Callable.answer g.E.Method.UnknownMethod.answer g.E.Formatter.Formatter.answer g.E.Join.PathJoin.answer) in
    let programs = c.program.ensures in
    let of = run_of says c.program.result.templates.now c.args.environment.now c.args.compiled.now _ c.program.result.rules.name.now c.program.result.rules.limit
    c.program.result.rules.undefined c.args.id c.args.context _ programs.templates programs.roots programs.name programs.limit programs.undefined
    c.in_ok-machine.ensures.made in
    run_stopped (Unit {0}) _ c.in-Err.stop c.into_error.result _ _ _ _ _ c.into_error.ensures c.in-Err.ensures.failures
    (render_stopped (Unit {0}) (brought_of says c.args.environment.now) registry c.args.id c.args.compiled.now c.args.context _ _ c.run_template.new.state registry.fuel _ _ _ _ c.in-Err.stop refl of
    c.in-Err.ensures.runs n finished)

pub returns-in-Ok-clause-renders : goal.returns-in-Ok-clause-renders
returns-in-Ok-clause-renders g c = λ n finished.
    let registry = c.args.environment.now.registry in
    let says = (user_answers g.E.Callable.Callable.answer g.E.Method.UnknownMethod.answer g.E.Formatter.Formatter.answer g.E.Join.PathJoin.answer) in
    let programs = c.program.ensures in
    let of = run_of says c.program.result.templates.now c.args.environment.now c.args.compiled.now _ c.program.result.rules.name.now c.program.result.rules.limit
    c.program.result.rules.undefined c.args.id c.args.context _ programs.templates programs.roots programs.name programs.limit programs.undefined
    c.in_ok-machine.ensures.made in
    let done = render_done (tt {0}) (brought_of says c.args.environment.now) registry c.args.id c.args.compiled.now c.args.context _ _ _ registry.fuel _ _ _ _ refl of
    c.in-Ok.ensures.runs n finished in
    whole done.over done.text c.in-Ok.ensures.failures

pub returns-in-Ok-clause-remains : goal.returns-in-Ok-clause-remains
returns-in-Ok-clause-remains g c = λ n finished.
    let registry = c.args.environment.now.registry in
    let says = (user_answers g.E.Callable.Callable.answer g.E.Method.UnknownMethod.answer g.E.Formatter.Formatter.answer g.E.Join.PathJoin.answer) in
    let programs = c.program.ensures in
    let of = run_of says c.program.result.templates.now c.args.environment.now c.args.compiled.now _ c.program.result.rules.name.now c.program.result.rules.limit
    c.program.result.rules.undefined c.args.id c.args.context _ programs.templates programs.roots programs.name programs.limit programs.undefined
    c.in_ok-machine.ensures.made in
    let done = render_done (tt {0}) (brought_of says c.args.environment.now) registry c.args.id c.args.compiled.now c.args.context _ _ _ registry.fuel _ _ _ _ refl of
    c.in-Ok.ensures.runs n finished in
    let runs = c.in-Ok.ensures.runs in
    c.spend.ensures.left (paid_no_more (price_of runs.items) (left_of c.unspent.result) c.run_template.new.left
    (subst (λ (f : Option ℕ). Paid (price_of runs.items) f c.run_template.new.left) (sym c.unspent.ensures.left) runs.pays)) ∙ done.left_is

pub returns-in-Ok-clause-world : goal.returns-in-Ok-clause-world
returns-in-Ok-clause-world g c = λ n finished.
    let registry = c.args.environment.now.registry in
    let says = (user_answers g.E.Callable.Callable.answer g.E.Method.UnknownMethod.answer g.E.Formatter.Formatter.answer g.E.Join.PathJoin.answer) in
    let programs = c.program.ensures in
    let of = run_of says c.program.result.templates.now c.args.environment.now c.args.compiled.now _ c.program.result.rules.name.now c.program.result.rules.limit
    c.program.result.rules.undefined c.args.id c.args.context _ programs.templates programs.roots programs.name programs.limit programs.undefined
    c.in_ok-machine.ensures.made in
    let done = render_done (tt {0}) (brought_of says c.args.environment.now) registry c.args.id c.args.compiled.now c.args.context _ _ _ registry.fuel _ _ _ _ refl of
    c.in-Ok.ensures.runs n finished in
    sym done.world
