-- The answer to a request, which writes into an empty text, in the first state ids.
use Rattle.std.specs.Prelude.{◌≡◌, ℕ, List, [], Some, string_bytes}
use Rattle.template_machine_environment_settings.specs.Plain.{IsPlain, text_kept}
use Rattle.template_program_parts.specs.declared.outcome.Outcome.{Outcome}
use Rattle.template_program_run.specs.Answers.{AnswersWith}
use Rattle.template_program_run.specs.Given.{Given}
use Rattle.template_program_run.specs.History.{source_under, standing}
use Rattle.template_program_run.specs.Plain.{WritesOnRender}
use Rattle.template_program_run.specs.Served.{Served}
use Rattle.template_program_run.specs.declared.request.Request.{Request}

-- The request is answered with the outcome, and writes the text. A text tells no failures. A main template in which no marker starts
-- renders to its own text, without the newline at its end.
pub record IsAnswer (served : Served) (request : Request) (additions : List (List ℕ × List ℕ)) (given : Given)
    (outcome : Outcome) (text : List ℕ) : Type 0 where
  pub answers : AnswersWith served request additions given 0 outcome (Some []) (Some text) 0 0
  pub plain : (source : List ℕ) → standing additions (string_bytes request.main) ≡ Some source → IsPlain (source_under served source)
      → WritesOnRender request.command (Some []) (Some text) (text_kept (source_under served source)) outcome
