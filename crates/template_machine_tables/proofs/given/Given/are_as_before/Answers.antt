-- Arguments are compared one by one.
use Rattle.std.proofs.Common.{◌∙◌, ap, List, Option}
use Rattle.template_values_model.specs.Val.{Val}
use Rattle.template_machine_meaning.specs.Calls.{are_as_before}
use Rattle.template_machine_tables.proofs.Comparing.{lists_alike}
use Rattle.template_machine_tables.proofs.given.Given.are_as_before.Goals as goal

pub returns-in-Some : goal.returns-in-Some
returns-in-Some c =
    c.eq.ensures ∙ lists_alike c.args.args.now c.in-Some.before.now
    ∙ ap (λ (before : Option (List Val)). are_as_before c.args.args.now before) c.in-Some.ensures
