use Rattle.std.proofs.Common.{arith, ◌≡◌, ℕ, Option, length, unwrap_or, ap, ◌∙◌}
use Rattle.std.specs.List.{position_or_len}
use Rattle.template_builtins_numbers.proofs.Places.{place-le, place_or_length}
use Rattle.template_builtins_formats.specs.Directives.{ends}
use Rattle.template_builtins_formats.proofs.parts.end_of.Goals as goal

pub returns-clause-place : goal.returns-clause-place
returns-clause-place c =
    c.unwrap_or.ensures
    ∙ (ap (λ (o : Option ℕ). unwrap_or o (length c.args.text.now)) c.first_end.ensures
    ∙ place_or_length _ _ (place-le (ends c.args.part) c.args.text.now))

pub returns-clause-within : goal.returns-clause-within
returns-clause-within c =
    let place : c.unwrap_or.result ≡ position_or_len (ends c.args.part) c.args.text.now = returns-clause-place c in
    omega (arith, place, place-le (ends c.args.part) c.args.text.now)
