-- Expressions of an environment, and what they mean.
use Rattle.std.specs.Prelude.{◌≡◌, ℕ, ◌⊎◌, List, [], ◌∷◌, Option, Result, Ok, Err, IsTrue}
use Rattle.template_values_errors.specs.declared.ErrorKind.{ErrorKind}
use Rattle.template_values_errors.specs.Memory.{NoMemory}
use Rattle.template_values_model.specs.Val.{Val}
use Rattle.template_compiler_names.specs.Names.{stands_in}
use Rattle.template_compiler_process.specs.Drive.{ends}
use Rattle.template_compiler_process.specs.Fuel.{IsSameRun, under}
use Rattle.template_compiler_process.specs.Trace.{Run}
use Rattle.template_machine_meaning.specs.Isolation.{AgreesAt, AskNoNames}
use Rattle.template_machine_meaning.specs.Meaning.{Setting, evaluated}
use Rattle.template_machine_meaning.specs.World.{World}
use Rattle.template_machine_renders.specs.Renders.{FaultsAs}
use Rattle.template_compiled.specs.Expressions.{expression_in}
use Rattle.template_machine_environment.specs.Extras.{UserAnswers}
use Rattle.template_machine_environment.specs.Reading.{callables_of, registry_of, setting_in}
use Rattle.template_machine_environment.specs.declared.environment.Environment.{Environment}
use Rattle.template_machine_environment.specs.declared.expression.Expression.{Expression}

module _ {E C M F J R : Type 0} where
  -- the environment that it is an expression of
  abbrev pub environment_under : Expression E C M F J R → Environment E C M F J R
  environment_under e = e.environment.now

  -- its source
  abbrev pub text_of : Expression E C M F J R → List ℕ
  text_of e = e.compiled

  -- the fuel that each of its runs is given
  abbrev pub fuel_under : Expression E C M F J R → Option ℕ
  fuel_under e = (registry_of (environment_under e)).fuel

  -- the setting that it has; the first says what is answered where it asks what a user brought
  abbrev pub setting_under : UserAnswers C M F J → Expression E C M F J R → Setting
  setting_under says e = setting_in says (environment_under e)

  -- what it means over a context, in the state of a number: its value is handed out
  abbrev pub evaluation_of : UserAnswers C M F J → Expression E C M F J R → ℕ → Val → Run World
  evaluation_of says e id context = evaluated (setting_under says e) id (expression_in (text_of e)) context

-- The call gives the one value that the run leaves; else it answers with the run's fault. Or a growth was refused.
abbrev pub Gives : {S : Type 0} → Result Val (List ErrorKind) → Run S → Type 0
Gives (Ok v) r = r.end ≡ ends (v ∷ [])
Gives (Err kinds) r = FaultsAs r kinds ⊎ NoMemory kinds

module _ {E C M F J R : Type 0} where
  -- the contexts hold the same under each name that stands in the expression, or neither holds anything
  abbrev pub AgreeAlong : Expression E C M F J R → Val → Val → Type 0
  AgreeAlong e c d = (name : List ℕ) → IsTrue (stands_in name (expression_in (text_of e))) → AgreesAt c d name

  -- over the two contexts it takes the same steps at the same price, and comes to the same end, in the state of each number and
  -- under every fuel
  abbrev pub IsSameEvaluation : UserAnswers C M F J → Expression E C M F J R → Val → Val → Type 0
  IsSameEvaluation says e c d = (id : ℕ) (fuel : Option ℕ) →
      IsSameRun (under fuel (evaluation_of says e id c)) (under fuel (evaluation_of says e id d))

  -- Where what the user brought asks for no names, a context that agrees at these makes no difference.
  abbrev pub IsIsolatedEvaluation : UserAnswers C M F J → Expression E C M F J R → Val → Type 0
  IsIsolatedEvaluation says e c = AskNoNames (callables_of says (environment_under e))
      → (d : Val) → AgreeAlong e c d → IsSameEvaluation says e c d
