-- How a request is answered, which is served with this.
use Rattle.std.specs.Prelude.{◌≡◌, ℕ, ◌+◌, ◌⊎◌, ◌↔◌, Bool, List, [], ◌∷◌, Option, None, Some, Result, Ok, Err, IsTrue, String, string_bytes}
use Rattle.std.specs.BTreeSet.{BTreeSet, contains_text, IsOrdered}
use Rattle.std.specs.String.{string_cmp}
use Rattle.std.specs.declared.alloc.Global.{Global}
use Rattle.std.specs.Io.KnownBytes.{Appends}
use Rattle.template_values_errors.specs.declared.ErrorKind.{ErrorKind}
use Rattle.template_values_errors.specs.declared.ErrorKind.TheVariants.{InvalidOperation, TemplateNotFound}
use Rattle.template_values_errors.specs.Memory.{NoMemory}
use Rattle.template_values_model.specs.Val.{Val}
use Rattle.template_compiler_process.specs.Approximants.{IsFinished}
use Rattle.template_compiler_process.specs.Fuel.{IsSameRun, under}
use Rattle.template_machine_surroundings.specs.Rule.{IsEscapeOf}
use Rattle.template_machine_surroundings.specs.Writes.{AppendsBeginning}
use Rattle.template_machine_environment_settings.specs.Extras.{Brought}
use Rattle.template_machine_environment_settings.specs.Outcomes.{IsWant, TellsFailures}
use Rattle.template_machine_environment_settings.specs.Meaning.{Standing, rendered}
use Rattle.template_machine_environment_settings.specs.Isolation.{IsContextName}
use Rattle.template_machine_environment_settings.specs.Renderings.{Renders}
use Rattle.template_machine_environment_settings.specs.Sources.{tree_in}
use Rattle.template_machine_environment_settings.specs.Isolated.{AgreeAmong}
use Rattle.template_machine_environment_settings.specs.Registry.{Registry}
use Rattle.template_machine_environment_settings.specs.Standing.{setting_of}
use Rattle.template_program_parts.specs.Context.{text_pairs}
use Rattle.template_program_run.specs.Additions.{AllAreAccepted, IsRefusedAddition}
use Rattle.template_program_run.specs.Environments.{IsMade}
use Rattle.template_program_run.specs.Given.{Given, HasGiven, IsContextFrom, IsJsonAlone, IsRefusedGiven}
use Rattle.template_program_run.specs.History.{source_under, standing}
use Rattle.template_program_run.specs.Ids.{IsLastId}
use Rattle.template_program_run.specs.Lines.{told_names}
use Rattle.template_program_run.specs.Served.{Served, plainly_served}
use Rattle.template_program_parts.specs.declared.outcome.Outcome.{Outcome}
use Rattle.template_program_parts.specs.declared.outcome.Outcome.TheVariants.{Done, Render, Context, Template}
use Rattle.template_program_parts.specs.declared.command.Command.{Command}
use Rattle.template_program_parts.specs.declared.command.Command.TheVariants as asked
use Rattle.template_program_run.specs.declared.request.Request.{Request}

-- nothing was written
abbrev pub IsUntouched : Option (List ℕ) → Option (List ℕ) → ℕ → ℕ → Type 0
IsUntouched before after failed fails = (after ≡ before) × (fails ≡ failed)

-- the request's definitions
abbrev pub definitions_of : Request → List (List ℕ × List ℕ)
definitions_of request = text_pairs request.texts.items

-- an outcome of a render: done, or an error
abbrev pub IsOutcomeOf : Outcome → Result (Unit {0}) (List ErrorKind) → Type 0
IsOutcomeOf Done (Ok _) = Unit {0}
IsOutcomeOf (Render kinds) (Err others) = kinds ≡ others
IsOutcomeOf _ _ = ⊥

-- a template that stands has the name, and is the tree of the text, with the escape that the rule gives the name
pub record IsTemplateOf (served : Served) (name text : List ℕ) (t : Standing) : Type 0 where
  pub named : t.name ≡ name
  pub tree : t.tree ≡ tree_in (source_under served text)
  pub rule : IsEscapeOf served.escapes name t.escape

-- Its render, in the state of a number, ends: it is finished under some bound. Under each bound where it is, it decides,
-- with the fuel, the text and the end.
pub record IsRendered (brought : Brought) (e : Registry) (id : ℕ) (t : Standing) (context : Val)
    (result : Result (Unit {0}) (List ErrorKind)) (before after : Option (List ℕ)) (failed fails : ℕ) : Type 0 where
  pub finished : (n : ℕ) × IsFinished (rendered (setting_of brought e) id n t context).end
  pub renders : (n : ℕ) → IsFinished (rendered (setting_of brought e) id n t context).end
      → Renders result before after failed fails (under e.fuel (rendered (setting_of brought e) id n t context))

-- A template that stands is rendered over the context, in the state of the next id. The render is refused where no state id
-- is left.
abbrev pub Rendered : Brought → Registry → Standing → Val → ℕ → Outcome → Option (List ℕ) → Option (List ℕ) → ℕ → ℕ → Type 0
Rendered brought e t context next outcome before after failed fails =
    (IsLastId next → (outcome ≡ Render (InvalidOperation ∷ [])) × IsUntouched before after failed fails)
    × (¬ IsLastId next → (result : Result (Unit {0}) (List ErrorKind)) × IsOutcomeOf outcome result
    × IsRendered brought e next t context result before after failed fails)

-- The set has just the names that can matter to a render of the template: contexts that agree at these make no difference, in
-- no state, at no bound and under no fuel.
abbrev pub HasNames : Brought → Registry → Standing → BTreeSet (String Global) → Type 0
HasNames brought e t names = IsOrdered string_cmp names
    × ((name : List ℕ) → IsTrue (contains_text names name) ↔ IsContextName (setting_of brought e) t.tree name)
    × ((c d : Val) → AgreeAmong names c d → (id n : ℕ) (fuel : Option ℕ)
    → IsSameRun (under fuel (rendered (setting_of brought e) id n t c)) (under fuel (rendered (setting_of brought e) id n t d)))

-- The names that can matter are written in their order, as JSON or one a line; or a beginning of that, for want of memory or of
-- a sink that works. Where they cannot be found for want of memory, nothing is written.
abbrev pub TellsNames : Brought → Bool → Registry → Standing → Outcome → Option (List ℕ) → Option (List ℕ) → ℕ → ℕ → Type 0
TellsNames brought as_json e t Done before after failed fails =
    (names : BTreeSet (String Global)) × HasNames brought e t names × Appends before after (told_names as_json names.keys)
    × (fails ≡ failed)
TellsNames brought as_json e t (Render kinds) before after failed fails =
    (names : BTreeSet (String Global)) × HasNames brought e t names × IsWant kinds
    × AppendsBeginning before after (told_names as_json names.keys)
    × ((result : Result (Unit {0}) (List ErrorKind)) × (result ≡ Err kinds) × TellsFailures result failed fails)
TellsNames brought as_json e t (Template kinds) before after failed fails =
    NoMemory kinds × IsUntouched before after failed fails
TellsNames brought as_json e t _ before after failed fails = ⊥

-- what is done with the main template
abbrev pub Does : Served → Command → Registry → Standing → Request → Given → ℕ → Outcome
    → Option (List ℕ) → Option (List ℕ) → ℕ → ℕ → Type 0
Does served asked.Render e t request given next outcome before after failed fails =
    (context : Val) × IsContextFrom given (definitions_of request) context
    × Rendered served.brought e t context (next + 1) outcome before after failed fails
Does served asked.Names e t request given next outcome before after failed fails =
    TellsNames served.brought served.names_as_json e t outcome before after failed fails

-- The main template stands, in an environment of the request that took the next id, and that is done with it.
abbrev pub Performed : Served → Command → Request → List (List ℕ × List ℕ) → Given → ℕ → Outcome
    → Option (List ℕ) → Option (List ℕ) → ℕ → ℕ → Type 0
Performed served command request additions given next outcome before after failed fails =
    (e : Registry) × IsMade served request additions next e
    × ((text : List ℕ) × (standing additions (string_bytes request.main) ≡ Some text)
    × ((t : Standing) × IsTemplateOf served (string_bytes request.main) text t
    × Does served command e t request given next outcome before after failed fails))

-- The context of a render is refused; or else the additions are, or the main template does not stand; or else
-- what is asked is done. With no state id left, or no memory for the environment, the additions are refused.
abbrev pub AnswersWith : Served → Request → List (List ℕ × List ℕ) → Given → ℕ → Outcome
    → Option (List ℕ) → Option (List ℕ) → ℕ → ℕ → Type 0
AnswersWith served request additions given next outcome before after failed fails =
    ((kinds : List ErrorKind) × (outcome ≡ Context kinds) × IsRefusedGiven request.command given kinds
    × IsUntouched before after failed fails)
    ⊎ (((context : Val) × HasGiven request.command given (definitions_of request) context)
    × (((kinds : List ErrorKind) × (outcome ≡ Template kinds) × IsRefusedAddition served additions next kinds
    × IsUntouched before after failed fails)
    ⊎ (¬ IsLastId next × AllAreAccepted served additions
    × (((outcome ≡ Template (TemplateNotFound ∷ [])) × (standing additions (string_bytes request.main) ≡ None)
    × IsUntouched before after failed fails)
    ⊎ Performed served request.command request additions given next outcome before after failed fails))))

-- the same where it is served with nothing beside its templates and its context, and that is made of these bytes of JSON, if any
abbrev pub AnswersRequest : Request → List (List ℕ × List ℕ) → Option (List ℕ) → ℕ → Outcome
    → Option (List ℕ) → Option (List ℕ) → ℕ → ℕ → Type 0
AnswersRequest request additions json next outcome before after failed fails =
    (given : Given) × IsJsonAlone json given × AnswersWith plainly_served request additions given next outcome before after failed fails
