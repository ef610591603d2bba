-- The answers to requests whose main template stands.
use Rattle.std.proofs.Common.{◌≡◌, ◌∙◌, sym, subst, ap, refl, ℕ, ◌+◌, List, Option, None, Some, inr, string_bytes}
use Rattle.std.proofs.lemmas.Option.{none-some, same_Some}
use Rattle.std.specs.Option.{option_map}
use Rattle.template_values_model.specs.Val.{Val}
use Rattle.template_machine_surroundings.specs.Rule.{IsEscapeOf}
use Rattle.template_machine_environment_settings.specs.Meaning.{Standing}
use Rattle.template_machine_environment_settings.specs.Compiled.{Compiled, standing_of}
use Rattle.template_machine_environment_settings.specs.Sources.{Source, tree_in}
use Rattle.template_machine_environment_settings.specs.Standing.{source_at}
use Rattle.template_machine_environment_settings.specs.Registry.{Registry}
use Rattle.template_program_run.specs.Additions.{AllAreAccepted}
use Rattle.template_program_run.specs.Environments.{IsMade}
use Rattle.template_program_run.specs.Given.{Given, HasGiven}
use Rattle.template_program_run.specs.History.{source_under, standing}
use Rattle.template_program_run.specs.Ids.{IsLastId}
use Rattle.template_program_run.specs.Served.{Served}
use Rattle.template_program_run.specs.Answers.{AnswersWith, Does, IsTemplateOf, Rendered, definitions_of}
use Rattle.template_program_parts.specs.declared.outcome.Outcome.{Outcome}
use Rattle.template_program_parts.specs.declared.command.Command.{Command}
use Rattle.template_program_parts.specs.declared.command.Command.TheVariants as asked
use Rattle.template_program_run.specs.declared.request.Request.{Request}

-- the text of a source that stands
text_there : (served : Served) (o : Option (List ℕ)) (s : Source) → option_map (source_under served) o ≡ Some s
    → (text : List ℕ) × (o ≡ Some text) × (s ≡ source_under served text)
text_there served None s is = absurd (none-some _ is)
text_there served (Some text) s is = (text, refl, sym (same_Some _ _ is))

-- where no source stands, no text does
pub none_there : (served : Served) (o : Option (List ℕ)) → option_map (source_under served) o ≡ None → o ≡ None
none_there served None is = refl
none_there served (Some text) is = absurd (none-some _ (sym is))

-- the main template is the one that was found
found_there : (served : Served) (request : Request) (additions : List (List ℕ × List ℕ)) (id : ℕ) (e : Registry) (c : Compiled)
    → IsMade served request additions id e → c.name ≡ string_bytes request.main → source_at e (string_bytes request.main) ≡ Some c.source
    → IsEscapeOf c.source.escapes (string_bytes request.main) c.escape
    → (text : List ℕ) × (standing additions (string_bytes request.main) ≡ Some text)
    × IsTemplateOf served (string_bytes request.main) text (standing_of c)
found_there served request additions id e c made named found rule =
    let there = text_there served (standing additions (string_bytes request.main)) c.source (sym (made.sources (string_bytes request.main)) ∙ found) in (
      there.0,
      there.1,
      record {
        named = named;
        tree = ap tree_in there.2;
        rule = subst (λ (s : Source). IsEscapeOf s.escapes (string_bytes request.main) c.escape) there.2 rule;
      },
    )

pub answers_done : (served : Served) (request : Request) (additions : List (List ℕ × List ℕ)) (given : Given) (next : ℕ) (outcome : Outcome)
    (before after : Option (List ℕ)) (failed fails : ℕ)
    → (context : Val) → HasGiven request.command given (definitions_of request) context
    → ¬ IsLastId next → AllAreAccepted served additions → (e : Registry) → IsMade served request additions next e
    → (c : Compiled) → c.name ≡ string_bytes request.main → source_at e (string_bytes request.main) ≡ Some c.source
    → IsEscapeOf c.source.escapes (string_bytes request.main) c.escape → (command : Command) → request.command ≡ command
    → Does served command e (standing_of c) request given next outcome before after failed fails
    → AnswersWith served request additions given next outcome before after failed fails
answers_done served request additions given next outcome before after failed fails context has had accepted e made c named found rule command is does =
    let there = found_there served request additions next e c made named found rule in
    let done = subst (λ (asks : Command). Does served asks e (standing_of c) request given next outcome before after failed fails) (sym is) does in
    inr ((context, has), inr (had, accepted, inr (e, made, (there.0, there.1, (standing_of c, there.2, done)))))

pub rendered_does : (served : Served) (request : Request) (given : Given) (next : ℕ) (outcome : Outcome) (before after : Option (List ℕ)) (failed fails : ℕ)
    → (context : Val) → HasGiven request.command given (definitions_of request) context → request.command ≡ asked.Render
    → (e : Registry) (t : Standing) (id : ℕ) → id ≡ next + 1 → Rendered served.brought e t context id outcome before after failed fails
    → Does served asked.Render e t request given next outcome before after failed fails
rendered_does served request given next outcome before after failed fails context has is e t id counted rendered =
    let read = subst (λ (command : Command). HasGiven command given (definitions_of request) context) is has in
    (context, read.1, subst (λ (i : ℕ). Rendered served.brought e t context i outcome before after failed fails) counted rendered)
