-- A request that is run over a buffer, and its output flushed.
use Rattle.std.proofs.Common.{◌≡◌, ◌∙◌, ◌++◌, [], ℕ, List, OnOk, Option, None, Some, Result, ap, append-nil, refl, subst}
use Rattle.std.specs.Io.KnownBytes.{Keeps, append_known}
use Rattle.std.specs.declared.io.Error.{Error}
use Rattle.template_program_output.specs.Answer.{Answer}
use Rattle.template_program_output.specs.Buffer.{failures_told}
use Rattle.template_program_output.specs.Shown.{IsFlushed, Shown, TellsResult}
use Rattle.template_program_run.specs.Expressions.{AnswersAsked, Asked}
use Rattle.template_program_run.specs.Given.{Given}
use Rattle.template_program_run.specs.Served.{Served}
use Rattle.template_program_parts.specs.declared.outcome.Outcome.{Outcome}
use Rattle.template_program_run.specs.declared.request.Request.{Request}
use Rattle.template_program_parts.specs.Flushes.{flushed}
use Rattle.template_program_run.specs.Starts.{HasFailed, RunsFlushed}

-- nothing is held back
pub holds_none : (bytes : Option (List ℕ)) (held : List ℕ) → held ≡ [] → append_known bytes held ≡ bytes
holds_none None held none = refl
holds_none (Some bytes) held none = ap (λ h. Some (bytes ++ h)) none ∙ ap Some (append-nil bytes)

-- the failures that are counted are those among the answers, where these are told
pub told_failures : (answers : Option (List Answer)) (counted : ℕ) → HasFailed answers (failures_told answers counted)
told_failures None counted = tt
told_failures (Some answers) counted = refl

-- the additions, the context, the first id and the bytes before are what they are called
pub runs_flushed : (wanted : Option Asked) (request : Request) (served : Served) (additions added : List (List ℕ × List ℕ)) (given : Given) (next : ℕ)
    (before after : Shown) (taken written : Option (List ℕ)) (rest : List ℕ) (answers : Option (List Answer)) (failed fails : ℕ)
    (ran outcome : Outcome) (flush : Result (Unit {0}) Error)
    → added ≡ additions → next ≡ 0 → taken ≡ before.bytes → outcome ≡ flushed flush ran
    → Keeps written (append_known after.bytes rest) → OnOk flush (rest ≡ []) → OnOk flush (IsFlushed after.answers)
    → HasFailed before.answers failed → HasFailed answers fails → TellsResult answers after.answers flush
    → AnswersAsked wanted served request added given next ran taken written failed fails
    → RunsFlushed wanted request served additions given before after outcome
runs_flushed wanted request served additions added given next before after taken written rest answers failed fails ran outcome flush
    same_additions first same_bytes becomes holds all last failed_before failed_then told runs =
    let by_additions = subst (λ (a : List (List ℕ × List ℕ)). AnswersAsked wanted served request a given next ran taken written failed fails) same_additions runs in
    let by_first = subst (λ (n : ℕ). AnswersAsked wanted served request additions given n ran taken written failed fails) first by_additions in
    let by_bytes = subst (λ (b : Option (List ℕ)). AnswersAsked wanted served request additions given 0 ran b written failed fails) same_bytes by_first in
    record {
      ran = ran;
      flush = flush;
      written = written;
      rest = rest;
      answers = answers;
      failed = failed;
      fails = fails;
      runs = by_bytes;
      becomes = becomes;
      holds = holds;
      all = all;
      last = last;
      failed_before = failed_before;
      failed_then = failed_then;
      told = told;
    }
