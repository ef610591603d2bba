-- The renders of a session.
use Rattle.std.proofs.Common.{◌≡◌, ◌∙◌, ℕ, List, [], ◌∷◌, MatchOption, Option, None, Some, option_to_list, ap, inl, inr, refl, subst, sym}
use Rattle.template_values_errors.specs.declared.ErrorKind.{ErrorKind}
use Rattle.template_values_model.specs.Val.{Val}
use Rattle.template_machine_surroundings.specs.Rule.{IsEscapeOf}
use Rattle.template_machine_environment_settings.specs.Compiled.{Compiled, standing_of}
use Rattle.template_machine_environment_settings.specs.Extras.{Brought}
use Rattle.template_machine_environment_settings.specs.Plain.{IsPlain, text_kept}
use Rattle.template_machine_environment_settings.specs.Reading.{brought_of, registry_of}
use Rattle.template_machine_environment_settings.specs.Registry.{Registry}
use Rattle.template_machine_environment_settings.specs.Sources.{tree_in}
use Rattle.template_machine_environment_settings.specs.Standing.{source_at}
use Rattle.template_program_contexts.specs.declared.documents.Document.{Document}
use Rattle.template_program_parts.specs.Context.{text_pairs}
use Rattle.template_program_parts.specs.declared.command.Command.TheVariants as asked
use Rattle.template_program_parts.specs.declared.outcome.Outcome.{Outcome}
use Rattle.template_program_run.specs.Additions.{AllAreAccepted, IsRefusedAddition}
use Rattle.template_program_run.specs.Answers.{Rendered}
use Rattle.template_program_run.specs.Brought.{program_answers}
use Rattle.template_program_run.specs.Environments.{IsMade}
use Rattle.template_program_run.specs.Given.{Given, HasGiven}
use Rattle.template_program_run.specs.Ids.{behind_one}
use Rattle.template_program_run.specs.Plain.{WritesOnDone}
use Rattle.template_program_run.specs.Served.{Served}
use Rattle.template_program_run.specs.declared.request.Request.{Request}
use Rattle.template_replies.specs.Replies.{IsAskedBy, served_by}
use Rattle.template_requests.specs.declared.opening.Opening.{Opening}
use Rattle.template_sessions.specs.Sessions.{AreBytes, IsOpened, RendersIn, RendersInto}
use Rattle.template_sessions.specs.declared.session.Session.{Session}

-- the documents as they are lent
pub are_lent : (bytes : List ℕ) (document : Option Document) (documents : List Document) → AreBytes bytes (option_to_list document)
    → MatchOption document (documents ≡ []) (λ d. documents ≡ d ∷ []) → AreBytes bytes documents
are_lent bytes None documents are is = subst (AreBytes bytes) (sym is) are
are_lent bytes (Some d) documents are is = subst (AreBytes bytes) (sym is) are

-- a render into an empty text
pub renders_into : (s : Session) (name : List ℕ) (given : Given) (outcome : Outcome) (text before : List ℕ) → before ≡ []
    → RendersIn s name given outcome (Some before) (Some text) 0 0 → RendersInto s name given outcome text
renders_into s name given outcome text before is renders =
    record { renders = subst (λ (x : List ℕ). RendersIn s name given outcome (Some x) (Some text) 0 0) is renders }

-- the render of the template that was found
pub renders_found : (s : Session) (name : List ℕ) (given : Given) (context : Val) (outcome : Outcome) (before after : Option (List ℕ)) (failed fails : ℕ)
    → HasGiven asked.Render given [] context → (c : Compiled) → c.name ≡ name
    → source_at (registry_of s.environment) name ≡ Some c.source → IsEscapeOf c.source.escapes name c.escape
    → Rendered (brought_of program_answers s.environment) (registry_of s.environment) (standing_of c) context s.ids outcome before after failed fails
    → (IsPlain c.source → WritesOnDone before after (text_kept c.source) outcome)
    → RendersIn s name given outcome before after failed fails
renders_found s name given context outcome before after failed fails has c named found rule rendered plain =
    inr (context, has, inr (c.source, standing_of c, record { stands = found; named = named; tree = refl; rule = rule }, rendered, plain))

-- an environment that is made of what the opening says
pub opened_so : (opening : Opening) (s : Session) (served : Served) → served ≡ served_by opening.settings
    → (additions : List (List ℕ × List ℕ)) → additions ≡ text_pairs opening.templates.items → (next : ℕ) → next ≡ 0
    → AllAreAccepted served additions → (request : Request) → IsAskedBy asked.Render opening.settings request
    → IsMade served request additions next (registry_of s.environment)
    → brought_of program_answers s.environment ≡ served.brought → s.floats ≡ opening.settings.floats → s.ids ≡ behind_one next
    → IsOpened opening s
opened_so opening s served is additions are next first accepted request asked_by made brought floats counted =
    let made-first = subst (λ (n : ℕ). IsMade served request additions n (registry_of s.environment)) first made in
    let made-of = subst (λ (x : List (List ℕ × List ℕ)). IsMade served request x 0 (registry_of s.environment)) are made-first in record {
      accepted = subst (λ (x : Served). AllAreAccepted x (text_pairs opening.templates.items)) is (subst (AllAreAccepted served) are accepted);
      made = (request, asked_by, subst (λ (x : Served). IsMade x request (text_pairs opening.templates.items) 0 (registry_of s.environment)) is made-of);
      brought = brought ∙ ap (λ (x : Served). x.brought) is;
      floats = floats;
      ids = counted ∙ ap behind_one first;
    }

-- an environment that is refused so
pub refused_so : (opening : Opening) (served : Served) → served ≡ served_by opening.settings
    → (additions : List (List ℕ × List ℕ)) → additions ≡ text_pairs opening.templates.items → (next : ℕ) → next ≡ 0
    → (kinds : List ErrorKind) → IsRefusedAddition served additions next kinds
    → IsRefusedAddition (served_by opening.settings) (text_pairs opening.templates.items) 0 kinds
refused_so opening served is additions are next first kinds refused =
    let at-first = subst (λ (n : ℕ). IsRefusedAddition served additions n kinds) first refused in
    let of-these = subst (λ (x : List (List ℕ × List ℕ)). IsRefusedAddition served x 0 kinds) are at-first in
    subst (λ (x : Served). IsRefusedAddition x (text_pairs opening.templates.items) 0 kinds) is of-these
