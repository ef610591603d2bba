-- What the context of a render is made of.
use Rattle.std.specs.Prelude.{◌≡◌, ℕ, List, [], ◌∷◌, Option, None, Some}
use Rattle.template_values_errors.specs.declared.ErrorKind.{ErrorKind}
use Rattle.template_values_model.specs.Val.{Val, undefined}
use Rattle.template_values_json.specs.Json.{IsRefusal}
use Rattle.template_values_json.specs.declared.contexts.Floats.{Floats}
use Rattle.template_values_json.specs.declared.contexts.Floats.TheVariants.{Refused}
use Rattle.template_program_parts.specs.Context.{text_pairs}
use Rattle.template_program_parts.specs.declared.command.Command.{Command}
use Rattle.template_program_parts.specs.declared.command.Command.TheVariants as asked
use Rattle.template_program_contexts.specs.Context.{IsContextWith, fault_of_all}
use Rattle.template_program_contexts.specs.declared.documents.Document.{Document}
use Rattle.template_program_contexts.specs.declared.documents.Form.TheVariants.{Json}
use Rattle.template_program_run.specs.declared.parts.ContextParts.{ContextParts}

-- documents; values, as names with texts of JSON, that go over them; and what becomes of the floats in both
pub record Given : Type 0 where
  pub documents : List Document
  pub values : List (List ℕ × List ℕ)
  pub floats : Floats

abbrev pub given_in : ContextParts → Given
given_in parts = record { documents = parts.documents.now; values = text_pairs parts.values.now; floats = parts.floats }

-- the refusal of what is given, if any
abbrev pub fault_of_given : Given → Option ErrorKind
fault_of_given given = fault_of_all given.floats given.documents given.values

-- the context that it makes with these definitions
abbrev pub IsContextFrom : Given → List (List ℕ × List ℕ) → Val → Type 0
IsContextFrom given definitions context = IsContextWith given.floats given.documents definitions given.values context

-- it is refused; it is read for a render alone
abbrev pub IsRefusedGiven : Command → Given → List ErrorKind → Type 0
IsRefusedGiven asked.Render given kinds = IsRefusal (fault_of_given given) kinds
IsRefusedGiven asked.Names given kinds = ⊥

-- it is not refused, and a render has this context; names are told without one
abbrev pub HasGiven : Command → Given → List (List ℕ × List ℕ) → Val → Type 0
HasGiven asked.Render given definitions context = (fault_of_given given ≡ None) × IsContextFrom given definitions context
HasGiven asked.Names given definitions context = context ≡ undefined

-- one document, which is JSON of these bytes, or none where there are none
abbrev pub AreJson : Option (List ℕ) → List Document → Type 0
AreJson None documents = documents ≡ []
AreJson (Some bytes) documents = (d : Document) × (documents ≡ d ∷ []) × (d.form ≡ Json) × (d.bytes.now ≡ bytes)

-- nothing is given but these bytes of JSON, whose floats are refused
pub record IsJsonAlone (json : Option (List ℕ)) (given : Given) : Type 0 where
  pub documents : AreJson json given.documents
  pub values : given.values ≡ []
  pub floats : given.floats ≡ Refused
