-- That a request has one answer.
use Rattle.std.specs.Prelude.{◌≡◌, ◌↔◌, ℕ, ◌+◌, List, Option, IfSome}
use Rattle.std.specs.Io.KnownBytes.{Appends}
use Rattle.template_values_errors.specs.declared.ErrorKind.{ErrorKind}
use Rattle.template_values_errors.specs.Memory.{NoMemory}
use Rattle.template_values_model.specs.Val.{Val}
use Rattle.template_compiler_syntax.specs.Syntax.{IsUsable}
use Rattle.template_machine_environment_settings.specs.Outcomes.{IsWant}
use Rattle.template_machine_environment_settings.specs.Plain.{IsRefusedForRoom}
use Rattle.template_program_run.specs.Answers.{AnswersRequest, AnswersWith}
use Rattle.template_program_run.specs.Given.{Given, IsContextFrom, IsJsonAlone, fault_of_given}
use Rattle.template_program_run.specs.Ids.{IsLastId}
use Rattle.template_program_run.specs.Served.{served_under}
use Rattle.template_program_parts.specs.Context.{IsContextOf, fault_of_json}
use Rattle.template_program_parts.specs.Status.{IsStatusOf}
use Rattle.template_program_parts.specs.declared.outcome.Outcome.{Outcome}
use Rattle.template_program_parts.specs.declared.outcome.Outcome.TheVariants.{Done, Render, Context, Template}
use Rattle.template_program_run.specs.declared.options.Options.{Options}
use Rattle.template_program_run.specs.declared.request.Request.{Request}

-- an answer: how the request ended, with the state id that was next, what the sink had taken before and after, and how often
-- it had failed before and after
pub record Answer : Type 0 where
  pub next : ℕ
  pub outcome : Outcome
  pub before : Option (List ℕ)
  pub after : Option (List ℕ)
  pub failed : ℕ
  pub fails : ℕ

-- segments can be told apart in the syntax of the options, if they have one: that is so in each `SyntaxConfig`
abbrev pub HasUsableSyntax : Options → Type 0
HasUsableSyntax options = IfSome options.syntax (λ syntax. IsUsable syntax.now)

-- it is one to the request under the options, with these templates and this context
abbrev pub IsAnswerTo : Options → Request → List (List ℕ × List ℕ) → Given → Answer → Type 0
IsAnswerTo options request additions given a =
    AnswersWith (served_under options) request additions given a.next a.outcome a.before a.after a.failed a.fails

-- the outcome tells a want: of memory, of a sink that works, or of room for a source or its code
abbrev pub TellsWant : Outcome → Type 0
TellsWant Done = ⊥
TellsWant (Render kinds) = IsWant kinds
TellsWant (Context kinds) = NoMemory kinds
TellsWant (Template kinds) = IsRefusedForRoom kinds

-- nothing was wanted, and two state ids were left
pub record IsUnwanting (a : Answer) : Type 0 where
  pub unwanted : ¬ TellsWant a.outcome
  pub first_id : ¬ IsLastId a.next
  pub second_id : ¬ IsLastId (a.next + 1)

-- both write this text, and count no failure
pub record WriteBoth (a b : Answer) (text : List ℕ) : Type 0 where
  pub first : Appends a.before a.after text
  pub second : Appends b.before b.after text
  pub quiet : a.fails ≡ a.failed
  pub quiet_too : b.fails ≡ b.failed

-- they end with the same outcome, and there is one text that both write
pub record AreAlike (a b : Answer) : Type 0 where
  pub end : a.outcome ≡ b.outcome
  pub write : (text : List ℕ) × WriteBoth a b text

-- Two answers to one request, under the same options, with the same templates and context, and given while the same state id was
-- next, are alike, where nothing is wanted.
abbrev pub OneAnswer : Type 0
OneAnswer = (options : Options) → HasUsableSyntax options → (request : Request) (additions : List (List ℕ × List ℕ)) (given : Given) (a b : Answer)
    → IsAnswerTo options request additions given a → IsAnswerTo options request additions given b → a.next ≡ b.next
    → IsUnwanting a → IsUnwanting b → AreAlike a b

-- Where nothing is brought and a render's outcome has status 6, a growth was refused in it: no fault of a template is told so, at
-- any depth.
abbrev pub SixIsWant : Type 0
SixIsWant = (request : Request) (additions : List (List ℕ × List ℕ)) (json : Option (List ℕ)) (a : Answer) (kinds : List ErrorKind)
    → AnswersRequest request additions json a.next a.outcome a.before a.after a.failed a.fails
    → a.outcome ≡ Render kinds → IsStatusOf (Render kinds) 6 → NoMemory kinds

-- Where nothing is given but bytes of JSON, the context is what `read_context` makes of them, and it is refused as there.
abbrev pub JsonAlone : Type 0
JsonAlone = (json : Option (List ℕ)) (given : Given) → IsJsonAlone json given → (definitions : List (List ℕ × List ℕ)) (context : Val)
    → (IsContextFrom given definitions context ↔ IsContextOf json definitions context) × (fault_of_given given ≡ fault_of_json json)
