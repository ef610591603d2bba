use Rattle.std.proofs.Common.{◌∙◌, List, ℕ, true, ap}
use Rattle.template_values_model.specs.Val.{Val, function}
use Rattle.template_machine_meaning.specs.World.{Globals}
use Rattle.template_machine_tables.specs.Globals.{with_global}
use Rattle.template_machine_tables.proofs.Adding.{standing, next, all_stand}
use Rattle.template_machine_tables.proofs.globals.Globals.with_functions.Goals as goal

pub loop-function-preserved : goal.loop-function-preserved
loop-function-preserved c =
    let id = c.args.id in
    let name = c.name.result.now in
    let i = c.loop-function.function-index in
    c.in_ok-insert.ensures.put
    ∙ ap (λ (g : Globals). with_global name c.function.result g) c.loop-function.invariant
    ∙ ap (λ (v : Val). with_global name v (record { environment = id; has_own = true; named = standing id i })) (c.function.ensures ∙ ap (function id) c.number.ensures)
    ∙ ap (λ (named : List (List ℕ × Val)). record { environment = id; has_own = true; named = named }) (next id i _ name c.loop-function-test.true c.name.ensures)

pub returns-clause-made : goal.returns-clause-made
returns-clause-made c =
    c.loop-function.invariant
    ∙ ap (λ (named : List (List ℕ × Val)). record { environment = c.args.id; has_own = true; named = named })
    (all_stand c.args.id c.loop-function.function-index c.loop-function.auto.function-index-end c.loop-function-test.false)
