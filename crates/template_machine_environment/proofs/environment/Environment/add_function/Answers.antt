-- a function is put behind the others, and its value under its name
use Rattle.std.proofs.Common.{◌≡◌, ◌∙◌, ap, refl, ℕ, List, ◌∷◌, [], ◌++◌}
use Rattle.template_machine_environment.specs.Reading.{extras_of}
use Rattle.template_machine_environment.proofs.Brought.{on_err}
use Rattle.template_machine_environment.proofs.environment.Environment.add_function.Goals as goal

pub returns-clause-stands : goal.returns-clause-stands
returns-clause-stands g c =
    let items = c.push_reserved.ensures.items ∙ ap (λ fs. fs ++ c.args.function ∷ []) c.reserve.ensures.items in
    λ i. record (extras_of c.args.self.now) { functions = items i }

pub returns-in_err-reserve-clause-unchanged : goal.returns-in_err-reserve-clause-unchanged
returns-in_err-reserve-clause-unchanged g c = on_err c.from_residual.result (record {
  sources = λ name. refl;
  settings = refl;
  extras = λ i. record (extras_of c.args.self.now) { functions = c.reserve.ensures.items i };
})

pub returns-in_err-put_global-clause-unchanged : goal.returns-in_err-put_global-clause-unchanged
returns-in_err-put_global-clause-unchanged g c = on_err c.from_residual-in_err-put_global.result (record {
  sources = c.put_global.ensures.sources;
  settings = c.in_err-put_global.ensures.unchanged;
  extras = λ i. record (extras_of c.args.self.now) { functions = c.reserve.ensures.items i };
})
