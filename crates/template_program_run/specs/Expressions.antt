-- How a request is answered by an expression, in place of its main template.
use Rattle.std.specs.Prelude.{◌≡◌, ℕ, ◌+◌, ◌⊎◌, Bool, List, Option, None, Some, option_map}
use Rattle.std.specs.Borrow.{Bor}
use Rattle.template_values_errors.specs.declared.ErrorKind.{ErrorKind}
use Rattle.template_values_model.specs.Val.{Val}
use Rattle.template_machine_environment_settings.specs.Registry.{Registry}
use Rattle.template_program_parts.specs.declared.outcome.Outcome.{Outcome}
use Rattle.template_program_parts.specs.declared.outcome.Outcome.TheVariants.{Context, Template}
use Rattle.template_program_expression.specs.Evaluations.{Evaluates}
use Rattle.template_program_words.specs.declared.words.Words.{Words}
use Rattle.template_program_words.specs.declared.words.Words.TheVariants as asks
use Rattle.template_program_run.specs.Additions.{AllAreAccepted, IsRefusedAddition}
use Rattle.template_program_run.specs.Answers.{AnswersWith, IsUntouched, definitions_of}
use Rattle.template_program_run.specs.Environments.{IsMade}
use Rattle.template_program_run.specs.Given.{Given, HasGiven, IsRefusedGiven}
use Rattle.template_program_run.specs.Ids.{IsLastId}
use Rattle.template_program_run.specs.Served.{Served}
use Rattle.template_program_run.specs.declared.evaluating.Expression.{Expression}
use Rattle.template_program_run.specs.declared.request.Request.{Request}

-- an expression that is asked for: its text, and whether its value is told as JSON
pub record Asked : Type 0 where
  pub text : List ℕ
  pub as_json : Bool

abbrev pub asked_in : Expression → Asked
asked_in expression = record { text = expression.text.now; as_json = expression.as_json }

abbrev pub asked_so : Bool → Bor (List ℕ) → Asked
asked_so as_json text = record { text = text.now; as_json = as_json }

-- the one that the words ask for
abbrev pub expression_word : Words → Option Asked
expression_word (asks.Render read) = option_map (asked_so read.as_json) read.expression
expression_word (asks.Names read) = None
expression_word (asks.Check read) = None

-- It is evaluated over a context in an environment of the request, which took the next id, in the state of the id behind that.
abbrev pub IsEvaluatedFor : Asked → Served → Request → List (List ℕ × List ℕ) → Val → ℕ → Outcome
    → Option (List ℕ) → Option (List ℕ) → ℕ → ℕ → Type 0
IsEvaluatedFor wanted served request additions context next outcome before after failed fails =
    (e : Registry) × IsMade served request additions next e
    × Evaluates served.brought e wanted.as_json wanted.text context (next + 1) outcome before after failed fails

-- The context is refused; or else the additions are; or else the expression is evaluated. No template need stand.
abbrev pub AnswersExpression : Asked → Served → Request → List (List ℕ × List ℕ) → Given → ℕ → Outcome
    → Option (List ℕ) → Option (List ℕ) → ℕ → ℕ → Type 0
AnswersExpression wanted served request additions given next outcome before after failed fails =
    ((kinds : List ErrorKind) × (outcome ≡ Context kinds) × IsRefusedGiven request.command given kinds
    × IsUntouched before after failed fails)
    ⊎ ((context : Val) × HasGiven request.command given (definitions_of request) context
    × (((kinds : List ErrorKind) × (outcome ≡ Template kinds) × IsRefusedAddition served additions next kinds
    × IsUntouched before after failed fails)
    ⊎ (¬ IsLastId next × AllAreAccepted served additions
    × IsEvaluatedFor wanted served request additions context next outcome before after failed fails)))

-- a request is answered by the expression, if one is asked for, and else by its main template
abbrev pub AnswersAsked : Option Asked → Served → Request → List (List ℕ × List ℕ) → Given → ℕ → Outcome
    → Option (List ℕ) → Option (List ℕ) → ℕ → ℕ → Type 0
AnswersAsked None = AnswersWith
AnswersAsked (Some wanted) = AnswersExpression wanted
