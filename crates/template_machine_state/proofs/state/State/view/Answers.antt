-- The view has the name of the template that runs.
use Rattle.std.proofs.Common.{ℕ, List, ap, ◌∙◌}
use Rattle.std.specs.Prelude.{option_copied}
use Rattle.template_callables.specs.Callables.{View}
use Rattle.template_machine_meaning.specs.Keys.{Around}
use Rattle.template_machine_state.proofs.state.State.view.Goals as goal

pub returns : goal.returns
returns c a =
    let i = c.self.inside in
    let around : Around = record a { name = c.args.rendered.now; undefined = c.args.undefined } in
    let shown : List ℕ → View = λ n. record { name = n; escape = i.escape; undefined = c.args.undefined; block = option_copied i.block; temps = i.temps } in
    rw (← c.self.view_is) (c.new.ensures ∙ ap shown (c.name-name.ensures around))
