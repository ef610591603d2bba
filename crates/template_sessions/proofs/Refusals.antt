-- A refused opening has another status than 0.
use Rattle.std.proofs.Common.{◌≡◌, ◌≢◌, ◌⊎◌, ◌∙◌, ℕ, List, [], inl, inr, sym, arith}
use Rattle.template_values_errors.specs.declared.ErrorKind.{ErrorKind}
use Rattle.json.specs.Json.{Json}
use Rattle.template_program_parts.specs.Status.{IsStatusOf}
use Rattle.template_program_parts.specs.declared.outcome.Outcome.TheVariants.{Template}
use Rattle.template_requests.specs.declared.faults.MessageFault.{MessageFault}
use Rattle.template_requests.specs.declared.faults.MessageFault.TheVariants.{Malformed, Memory}
use Rattle.template_requests.specs.declared.opening.Opening.{Opening}
use Rattle.template_replies.specs.Replies.{IsBare, RepliesToFault, TellsOutcome}
use Rattle.template_sessions.specs.Openings.{RefusesJson, RefusesOpening, RefusesRequest, RefusesSession}

-- where no memory is left
bare_failed : (status : ℕ) (reply : List ℕ) → IsBare status reply → status ≢ 0
bare_failed status reply bare = λ done. omega (arith, bare.0, done)

-- where something is told with such a status
told_failed : {Told : Type 0} (of status : ℕ) (reply : List ℕ) → of ≢ 0 → ((status ≡ of) × Told) ⊎ IsBare status reply → status ≢ 0
told_failed of status reply other (inl told) = λ done. other (sym told.0 ∙ done)
told_failed of status reply other (inr bare) = bare_failed status reply bare

-- the status of a template that is refused
template_failed : (kinds : List ErrorKind) (of : ℕ) → IsStatusOf (Template kinds) of → of ≢ 0
template_failed kinds of status = λ done. elim status.2 [ inl memory ↦ omega (arith, memory.1, done) | inr other ↦ omega (arith, other.1, done) ]

outcome_failed : (kinds : List ErrorKind) (text : List ℕ) (status : ℕ) (reply : List ℕ) → TellsOutcome (Template kinds) text status reply → status ≢ 0
outcome_failed kinds text status reply tells = told_failed tells.0 status reply (template_failed kinds tells.0 tells.1) tells.2

fault_failed : (fault : MessageFault) (status : ℕ) (reply : List ℕ) → RepliesToFault fault status reply → status ≢ 0
fault_failed (Malformed member) status reply told = told_failed 2 status reply (λ is. omega (arith, is)) told
fault_failed Memory status reply bare = bare_failed status reply bare

session_failed : (opening : Opening) (status : ℕ) (reply : List ℕ) → RefusesSession opening status reply → status ≢ 0
session_failed opening status reply (inl refused) = outcome_failed refused.0 [] status reply refused.2
session_failed opening status reply (inr bare) = bare_failed status reply bare

opening_failed : (opening : Opening) (status : ℕ) (reply : List ℕ) → RefusesOpening opening status reply → status ≢ 0
opening_failed opening status reply (inl syntax) = told_failed 2 status reply (λ is. omega (arith, is)) syntax.2
opening_failed opening status reply (inr refused) = session_failed opening status reply refused

json_failed : (j : Json) (status : ℕ) (reply : List ℕ) → RefusesJson j status reply → status ≢ 0
json_failed j status reply (inl fault) = fault_failed fault.0 status reply fault.2
json_failed j status reply (inr refused) = opening_failed refused.0 status reply refused.2

pub request_failed : (request : List ℕ) (status : ℕ) (reply : List ℕ) → RefusesRequest request status reply → status ≢ 0
request_failed request status reply (inl fault) = fault_failed fault.0 status reply fault.2
request_failed request status reply (inr refused) = json_failed refused.0 status reply refused.3
