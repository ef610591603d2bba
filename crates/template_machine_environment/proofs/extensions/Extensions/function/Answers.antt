use Rattle.std.proofs.Common.{◌≡◌, ◌∙◌, ℕ, ◌<◌, ◌≤◌, sym, ap, option_copied, rules, arith}
use Rattle.std.specs.List.{slice_get}
use Rattle.template_machine_meaning.specs.World.{own_functions}
use Rattle.template_machine_environment.specs.Extras.{numbered_from}
use Rattle.template_machine_environment.proofs.Brought.{at_number, none_before}
use Rattle.template_machine_environment.proofs.extensions.Extensions.function.Goals as goal

pub returns-in_err-checked_sub : goal.returns-in_err-checked_sub
returns-in_err-checked_sub g c =
    let before : ¬ (own_functions ≤ c.args.number) = c.in_err-checked_sub.ensures in
    let below : c.args.number < own_functions = grind arith in
    ap option_copied c.from_residual.ensures ∙ sym (none_before own_functions c.args.number c.args.self.now.functions.items below)

pub returns : goal.returns
returns g c =
    let items = c.args.self.now.functions.items in
    let from = c.in_ok-checked_sub.ensures in
    let found : option_copied c.at.result ≡ slice_get items c.in_ok-checked_sub.field-0 = search rules in
    found ∙ ap (slice_get items) from.1 ∙ sym (at_number own_functions c.args.number items from.0)
