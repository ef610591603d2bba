-- What an environment gives to its runs is told apart by its parts.
use Rattle.std.specs.Prelude.{ℕ, Bool, List, refl}
use Rattle.std.specs.Coded.{Coded, code_by, coded×, coded_ℕ, coded_bool}
use Rattle.template_values_model.specs.Val.{Val}
use Rattle.template_values_named.specs.Codes.{named_code}
use Rattle.template_machine_meaning.specs.World.{Globals}

abbrev pub globals_code : Coded Globals
globals_code =
    code_by (ℕ × (Bool × List (List ℕ × Val))) (coded× coded_ℕ (coded× coded_bool named_code))
    (λ g. (g.environment, (g.has_own, g.named))) (λ p. record { environment = p.0; has_own = p.1.0; named = p.1.1 }) (λ _. refl)
