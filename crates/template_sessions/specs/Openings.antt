-- What opens a session, and how a refused opening is told.
use Rattle.std.specs.Prelude.{◌≡◌, ◌⊎◌, ℕ, List, [], None, Some}
use Rattle.std.specs.Str.{IsUtf8}
use Rattle.json.specs.Json.{Json, document}
use Rattle.template_values_errors.specs.declared.ErrorKind.{ErrorKind}
use Rattle.template_program_parts.specs.Context.{text_pairs}
use Rattle.template_program_parts.specs.declared.outcome.Outcome.TheVariants.{Template}
use Rattle.template_program_run.specs.Additions.{IsRefusedAddition}
use Rattle.template_requests.specs.Faults.{IsFault, IsFaultOf}
use Rattle.template_requests.specs.Says.{SaysOpening}
use Rattle.template_requests.specs.Syntaxes.{RefusesSyntax, syntax_of}
use Rattle.template_requests.specs.declared.faults.MessageFault.{MessageFault}
use Rattle.template_requests.specs.declared.member.Member.TheVariants as member
use Rattle.template_requests.specs.declared.opening.Opening.{Opening}
use Rattle.template_replies.specs.Replies.{IsBare, RepliesToFault, TellsOutcome, TellsRefusal, served_by}
use Rattle.template_sessions.specs.Sessions.{IsOpened}
use Rattle.template_sessions.specs.declared.session.Session.{Session}

-- the JSON of the bytes says what the session is opened with
abbrev pub OpensJson : Json → Session → Type 0
OpensJson j s = (opening : Opening) × SaysOpening j opening × IsOpened opening s

abbrev pub Opens : List ℕ → Session → Type 0
Opens bytes s = (j : Json) × IsUtf8 bytes × (document bytes ≡ Some j) × OpensJson j s

-- a template is refused, or memory for the session is
abbrev pub RefusesSession : Opening → ℕ → List ℕ → Type 0
RefusesSession opening status reply =
    ((kinds : List ErrorKind) × IsRefusedAddition (served_by opening.settings) (text_pairs opening.templates.items) 0 kinds
    × TellsOutcome (Template kinds) [] status reply)
    ⊎ IsBare status reply

-- its syntax is refused, or a template is
abbrev pub RefusesOpening : Opening → ℕ → List ℕ → Type 0
RefusesOpening opening status reply =
    ((kinds : List ErrorKind) × RefusesSyntax (syntax_of opening.settings.syntax) kinds × TellsRefusal kinds status reply)
    ⊎ RefusesSession opening status reply

-- a member is malformed, memory is wanting, or what it says is refused
abbrev pub RefusesJson : Json → ℕ → List ℕ → Type 0
RefusesJson j status reply =
    ((fault : MessageFault) × IsFault j fault × RepliesToFault fault status reply)
    ⊎ ((opening : Opening) × SaysOpening j opening × RefusesOpening opening status reply)

-- the bytes are no JSON, memory is wanting, or what they say is refused
abbrev pub RefusesRequest : List ℕ → ℕ → List ℕ → Type 0
RefusesRequest bytes status reply =
    ((fault : MessageFault) × IsFaultOf fault member.Whole (IsUtf8 bytes → document bytes ≡ None) × RepliesToFault fault status reply)
    ⊎ ((j : Json) × IsUtf8 bytes × (document bytes ≡ Some j) × RefusesJson j status reply)
