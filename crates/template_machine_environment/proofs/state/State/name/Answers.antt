use Rattle.std.proofs.Common.{◌∙◌, ℕ, List, ap}
use Rattle.template_machine_meaning.specs.Names as names
use Rattle.template_machine_environment.specs.States.{named_alone, own_name_in}
use Rattle.template_machine_environment.proofs.state.State.name.Goals as goal

pub returns : goal.returns
returns g c =
    let self = c.args.self.now in
    c.here_name.ensures (named_alone (own_name_in self)) ∙ ap (λ (n : List ℕ). names.name_of (named_alone n) self.machine.here) c.own_name.ensures
