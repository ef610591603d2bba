-- Additions of templates in order, as names with their sources.
use Rattle.std.specs.Prelude.{◌≡◌, ℕ, ◌⊎◌, List, [], ◌∷◌}
use Rattle.template_values_errors.specs.declared.ErrorKind.{ErrorKind}
use Rattle.template_values_errors.specs.declared.ErrorKind.TheVariants.{InvalidOperation}
use Rattle.template_values_errors.specs.Memory.{NoMemory}
use Rattle.template_machine_environment_settings.specs.Sources.{IsAccepted, IsRefusedWith}
use Rattle.template_program_run.specs.History.{source_under}
use Rattle.template_program_run.specs.Ids.{IsLastId}
use Rattle.template_program_run.specs.Served.{Served}

-- each source is accepted
abbrev pub AllAreAccepted : Served → List (List ℕ × List ℕ) → Type 0
AllAreAccepted served [] = Unit {0}
AllAreAccepted served (addition ∷ later) = IsAccepted (source_under served addition.1) × AllAreAccepted served later

-- a source is refused with these kinds, and each before it is accepted
abbrev pub RefusesOne : Served → List (List ℕ × List ℕ) → List ErrorKind → Type 0
RefusesOne served [] kinds = ⊥
RefusesOne served (addition ∷ later) kinds =
    IsRefusedWith (source_under served addition.1) kinds
    ⊎ (IsAccepted (source_under served addition.1) × RefusesOne served later kinds)

-- the kinds that an environment is refused with: there is no state id, or else a growth was refused
abbrev pub IsRefusedEnvironment : ℕ → List ErrorKind → Type 0
IsRefusedEnvironment next kinds = (IsLastId next × (kinds ≡ InvalidOperation ∷ [])) ⊎ (¬ IsLastId next × NoMemory kinds)

-- the kinds that the additions are refused with: the environment's, or else the first refused one's
abbrev pub IsRefusedAddition : Served → List (List ℕ × List ℕ) → ℕ → List ErrorKind → Type 0
IsRefusedAddition served additions next kinds =
    IsRefusedEnvironment next kinds ⊎ (¬ IsLastId next × RefusesOne served additions kinds)
