use Rattle.std.proofs.Common.{arith, ◌≡◌, ℕ, Option, length, unwrap_or, ap, ◌∙◌}
use Rattle.std.specs.List.{position_or_len}
use Rattle.template_builtins_numbers.specs.Decimals as decimals
use Rattle.template_builtins_numbers.proofs.Places.{place-le, place_or_length}
use Rattle.template_builtins_decimals.proofs.reading.power_in.Goals as goal

pub returns-clause-place : goal.returns-clause-place
returns-clause-place c =
    c.unwrap_or.ensures
    ∙ (ap (λ (o : Option ℕ). unwrap_or o (length c.args.text.now)) c.first_power.ensures
    ∙ place_or_length _ _ (place-le decimals.is_power c.args.text.now))

pub returns-clause-within : goal.returns-clause-within
returns-clause-within c =
    let place : c.unwrap_or.result ≡ position_or_len decimals.is_power c.args.text.now = returns-clause-place c in
    omega (arith, place, place-le decimals.is_power c.args.text.now)
