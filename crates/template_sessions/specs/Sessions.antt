-- Sessions: what stands in them, and what their renders write.
use Rattle.std.specs.Prelude.{◌≡◌, ◌⊎◌, ℕ, List, [], ◌∷◌, Option, None, Some}
use Rattle.std.specs.Str.{IsUtf8}
use Rattle.template_values_errors.specs.declared.ErrorKind.{ErrorKind}
use Rattle.template_values_errors.specs.declared.ErrorKind.TheVariants.{TemplateNotFound}
use Rattle.template_values_model.specs.Val.{Val}
use Rattle.template_machine_surroundings.specs.Rule.{IsEscapeOf}
use Rattle.template_machine_environment_settings.specs.Meaning.{Standing}
use Rattle.template_machine_environment_settings.specs.Plain.{IsPlain, text_kept}
use Rattle.template_machine_environment_settings.specs.Reading.{brought_of, registry_of}
use Rattle.template_machine_environment_settings.specs.Sources.{Source, tree_in}
use Rattle.template_machine_environment_settings.specs.Standing.{source_at}
use Rattle.template_program_contexts.specs.declared.documents.Document.{Document}
use Rattle.template_program_parts.specs.Context.{text_pairs}
use Rattle.template_program_parts.specs.declared.command.Command.TheVariants as asked
use Rattle.template_program_parts.specs.declared.outcome.Outcome.{Outcome}
use Rattle.template_program_parts.specs.declared.outcome.Outcome.TheVariants.{Context, Template}
use Rattle.template_program_run.specs.Additions.{AllAreAccepted}
use Rattle.template_program_run.specs.Answers.{IsUntouched, Rendered}
use Rattle.template_program_run.specs.Brought.{program_answers}
use Rattle.template_program_run.specs.Environments.{IsMade}
use Rattle.template_program_run.specs.Given.{AreJson, Given, HasGiven, IsRefusedGiven}
use Rattle.template_program_run.specs.Ids.{behind_one}
use Rattle.template_program_run.specs.Plain.{WritesOnDone}
use Rattle.template_program_run.specs.declared.request.Request.{Request}
use Rattle.template_requests.specs.declared.member.Member.TheVariants as member
use Rattle.template_requests.specs.declared.opening.Opening.{Opening}
use Rattle.template_replies.specs.Replies.{IsAskedBy, TellsMember, TellsOutcome, served_by}
use Rattle.template_sessions.specs.declared.session.Session.{Session}

-- the templates of the opening stand in the environment of the session, which is made as that of a request's own, and took the first
-- state id
pub record IsOpened (opening : Opening) (s : Session) : Type 0 where
  pub accepted : AllAreAccepted (served_by opening.settings) (text_pairs opening.templates.items)
  pub made : (request : Request) × IsAskedBy asked.Render opening.settings request
      × IsMade (served_by opening.settings) request (text_pairs opening.templates.items) 0 (registry_of s.environment)
  pub brought : brought_of program_answers s.environment ≡ (served_by opening.settings).brought
  pub floats : s.floats ≡ opening.settings.floats
  pub ids : s.ids ≡ behind_one 0

-- a render takes a state id, or none, and changes nothing else
pub record IsKept (before after : Session) : Type 0 where
  pub environment : after.environment ≡ before.environment
  pub floats : after.floats ≡ before.floats
  pub ids : (after.ids ≡ before.ids) ⊎ (after.ids ≡ behind_one before.ids)

-- the template that stands under the name
pub record IsStanding (s : Session) (name : List ℕ) (source : Source) (t : Standing) : Type 0 where
  pub stands : source_at (registry_of s.environment) name ≡ Some source
  pub named : t.name ≡ name
  pub tree : t.tree ≡ tree_in source
  pub rule : IsEscapeOf source.escapes name t.escape

-- The context is refused; or else no template of the name stands; or else that is rendered over the context, in the state of the
-- session's next id. A template in which no marker starts renders to its text, without the newline at its end.
abbrev pub RendersIn : Session → List ℕ → Given → Outcome → Option (List ℕ) → Option (List ℕ) → ℕ → ℕ → Type 0
RendersIn s name given outcome before after failed fails =
    ((kinds : List ErrorKind) × (outcome ≡ Context kinds) × IsRefusedGiven asked.Render given kinds
    × IsUntouched before after failed fails)
    ⊎ ((context : Val) × HasGiven asked.Render given [] context
    × (((outcome ≡ Template (TemplateNotFound ∷ [])) × (source_at (registry_of s.environment) name ≡ None)
    × IsUntouched before after failed fails)
    ⊎ ((source : Source) × (t : Standing) × IsStanding s name source t
    × Rendered (brought_of program_answers s.environment) (registry_of s.environment) t context s.ids outcome before after failed fails
    × (IsPlain source → WritesOnDone before after (text_kept source) outcome))))

-- the same into an empty text, which tells no failures
pub record RendersInto (s : Session) (name : List ℕ) (given : Given) (outcome : Outcome) (text : List ℕ) : Type 0 where
  pub renders : RendersIn s name given outcome (Some []) (Some text) 0 0

-- one document, which is JSON of these bytes; none where there are none
abbrev pub AreBytes : List ℕ → List Document → Type 0
AreBytes [] documents = AreJson None documents
AreBytes (byte ∷ bytes) documents = AreJson (Some (byte ∷ bytes)) documents

-- a context of the bytes, whose floats are as the session has them
pub record IsContextOf (s : Session) (bytes : List ℕ) (given : Given) : Type 0 where
  pub documents : AreBytes bytes given.documents
  pub values : given.values ≡ []
  pub floats : given.floats ≡ s.floats

-- the template of the name is rendered, and the outcome is told
abbrev pub RepliesNamed : Session → List ℕ → List ℕ → ℕ → List ℕ → Type 0
RepliesNamed s name context status reply =
    (given : Given) × IsContextOf s context given
    × ((outcome : Outcome) × (text : List ℕ) × RendersInto s name given outcome text × TellsOutcome outcome text status reply)

-- the name is no text, or the template of the name is rendered
abbrev pub RepliesIn : Session → List ℕ → List ℕ → ℕ → List ℕ → Type 0
RepliesIn s name context status reply =
    ((¬ IsUtf8 name) × TellsMember member.Main status reply) ⊎ (IsUtf8 name × RepliesNamed s name context status reply)
