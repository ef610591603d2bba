use Rattle.std.proofs.Common.{ℕ, subst}
use Rattle.template_compiler_process.specs.Approximants.{IsFinished}
use Rattle.template_compiled.specs.Compiled.{Compiled}
use Rattle.template_compiled.specs.Standing.{all_in}
use Rattle.template_machine_environment.specs.Extras.{user_answers}
use Rattle.template_machine_environment.specs.Reading.{brought_of}
use Rattle.template_machine_environment.specs.Renderings.{rendering}
use Rattle.template_machine_environment.proofs.Ending.{lists_all, names_of}
use Rattle.template_machine_environment.proofs.Rendering.{render_ends}
use Rattle.template_machine_environment.proofs.laws.every_render_ends.Goals as goal

pub returns : goal.returns
returns g c = λ id context.
    let environment = c.args.template.now.environment.now.registry in
    let brought = brought_of (user_answers g.E.Callable.Callable.answer g.E.Method.UnknownMethod.answer g.E.Formatter.Formatter.answer g.E.Join.PathJoin.answer) c.args.template.now.environment.now in
    let all = all_in environment.templates in
    subst (λ (t : Compiled). (n : ℕ) × IsFinished (rendering brought environment id t n context).end) c.get.ensures
    (render_ends brought environment (names_of all) id c.get.result.now context (lists_all brought environment all c.values-standing.ensures.found))
