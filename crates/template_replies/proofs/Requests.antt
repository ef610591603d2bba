-- The run of a request.
use Rattle.std.proofs.Common.{◌≡◌, ℕ, List, [], ◌∷◌, MatchOption, Option, None, Some, option_to_list, string_bytes, subst, sym}
use Rattle.template_machine_environment_settings.specs.Plain.{IsPlain, text_kept}
use Rattle.template_program_contexts.specs.declared.documents.Document.{Document}
use Rattle.template_program_parts.specs.Context.{text_pairs}
use Rattle.template_program_parts.specs.declared.command.Command.{Command}
use Rattle.template_program_parts.specs.declared.outcome.Outcome.{Outcome}
use Rattle.template_program_run.specs.Answers.{AnswersWith}
use Rattle.template_program_run.specs.Given.{AreJson, Given}
use Rattle.template_program_run.specs.History.{source_under, standing}
use Rattle.template_program_run.specs.Plain.{WritesOnRender}
use Rattle.template_program_run.specs.Served.{Served}
use Rattle.template_program_run.specs.declared.request.Request.{Request}
use Rattle.template_requests.specs.declared.message.Message.{Message}
use Rattle.template_replies.specs.Answers.{IsAnswer}
use Rattle.template_replies.specs.Replies.{IsAsked, IsGiven, Runs, TellsOutcome, served_by}

-- the documents as they are lent
pub are_lent : (json : Option (List ℕ)) (document : Option Document) (documents : List Document) → AreJson json (option_to_list document)
    → MatchOption document (documents ≡ []) (λ d. documents ≡ d ∷ []) → AreJson json documents
are_lent json None documents are is = subst (AreJson json) (sym is) are
are_lent json (Some d) documents are is = subst (AreJson json) (sym is) are

-- an answer to what the message asks is its run
pub runs_so : (command : Command) (message : Message) (request : Request) (given : Given) (outcome : Outcome) (text reply : List ℕ) (status : ℕ)
    → IsAsked command message request → IsGiven message given
    → (served : Served) → served ≡ served_by message.settings
    → (additions : List (List ℕ × List ℕ)) → additions ≡ text_pairs message.templates.items
    → IsAnswer served request additions given outcome text
    → TellsOutcome outcome text status reply → Runs command message status reply
runs_so command message request given outcome text reply status asked has served s additions a answer told =
    let first = subst (λ (x : Served). IsAnswer x request additions given outcome text) s answer in
    let second = subst (λ (x : List (List ℕ × List ℕ)). IsAnswer (served_by message.settings) request x given outcome text) a first in
    (request, asked, (given, has, (outcome, text, second, told)))

-- an answer that wrote into an empty text, in the first state ids
pub answer_so : (served : Served) (request : Request) (additions : List (List ℕ × List ℕ)) (given : Given) (outcome : Outcome) (text : List ℕ)
    → (next : ℕ) → next ≡ 0 → (before : List ℕ) → before ≡ []
    → AnswersWith served request additions given next outcome (Some before) (Some text) 0 0
    → ((source : List ℕ) → standing additions (string_bytes request.main) ≡ Some source → IsPlain (source_under served source)
    → WritesOnRender request.command (Some before) (Some text) (text_kept (source_under served source)) outcome)
    → IsAnswer served request additions given outcome text
answer_so served request additions given outcome text next n before b answers plain =
    let first = subst (λ (x : ℕ). AnswersWith served request additions given x outcome (Some before) (Some text) 0 0) n answers in
    record {
      answers = subst (λ (x : List ℕ). AnswersWith served request additions given 0 outcome (Some x) (Some text) 0 0) b first;
      plain = λ source stands is. subst (λ (x : List ℕ). WritesOnRender request.command (Some x) (Some text)
          (text_kept (source_under served source)) outcome) b (plain source stands is);
    }
