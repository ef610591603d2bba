-- What a call of a render does, as what the request's outcome tells.
use Rattle.std.proofs.Common.{ℕ, List, Option, Result, Ok, Err}
use Rattle.template_values_errors.specs.declared.ErrorKind.{ErrorKind}
use Rattle.template_values_model.specs.Val.{Val}
use Rattle.template_compiler_process.specs.Approximants.{IsFinished}
use Rattle.template_compiler_process.specs.Fuel.{under}
use Rattle.template_compiler_process.specs.Trace.{Run}
use Rattle.template_machine_environment_settings.specs.Extras.{Brought}
use Rattle.template_machine_environment_settings.specs.Meaning.{Standing, rendered}
use Rattle.template_machine_environment_settings.specs.Renderings.{Renders, whole, broken}
use Rattle.template_machine_environment_settings.specs.Standing.{setting_of}
use Rattle.template_machine_environment_settings.specs.Registry.{Registry}
use Rattle.template_program_run.specs.Answers.{IsRendered}

renders_done : {X S : Type 0} (v : X) (before after : Option (List ℕ)) (failed fails : ℕ) (r : Run S)
    → Renders {X = X} (Ok v) before after failed fails r → Renders {X = Unit {0}} (Ok tt) before after failed fails r
renders_done v before after failed fails r (whole ends text quiet) = whole ends text quiet
renders_done v before after failed fails r (broken cut text) = broken cut text

renders_failed : {X S : Type 0} (kinds : List ErrorKind) (before after : Option (List ℕ)) (failed fails : ℕ) (r : Run S)
    → Renders {X = X} (Err kinds) before after failed fails r → Renders {X = Unit {0}} (Err kinds) before after failed fails r
renders_failed kinds before after failed fails r (whole ends text quiet) = whole ends text quiet
renders_failed kinds before after failed fails r (broken cut text) = broken cut text

-- what is told of a render, by what is brought
abbrev Tells : Brought → Registry → ℕ → Standing → Val → (X : Type 0) → Result X (List ErrorKind) → Option (List ℕ) → Option (List ℕ) → ℕ → ℕ → Type 0
Tells k e id t context X result before after failed fails = ((n : ℕ) × IsFinished (rendered (setting_of k e) id n t context).end)
    × ((n : ℕ) → IsFinished (rendered (setting_of k e) id n t context).end
    → Renders {X = X} result before after failed fails (under e.fuel (rendered (setting_of k e) id n t context)))

pub rendered_done : {X : Type 0} (v : X) (k : Brought) (e : Registry) (id : ℕ) (t : Standing) (context : Val) (before after : Option (List ℕ)) (failed fails : ℕ)
    → Tells k e id t context X (Ok v) before after failed fails → IsRendered k e id t context (Ok tt) before after failed fails
rendered_done v k e id t context before after failed fails told =
    record { finished = told.0; renders = λ n done. renders_done v before after failed fails _ (told.1 n done) }

pub rendered_failed : (X : Type 0) (kinds : List ErrorKind) (k : Brought) (e : Registry) (id : ℕ) (t : Standing) (context : Val)
    (before after : Option (List ℕ)) (failed fails : ℕ) → Tells k e id t context X (Err kinds) before after failed fails
    → IsRendered k e id t context (Err kinds) before after failed fails
rendered_failed X kinds k e id t context before after failed fails told =
    record { finished = told.0; renders = λ n done. renders_failed kinds before after failed fails _ (told.1 n done) }
