-- The reply to a request.
use Rattle.std.specs.Prelude.{◌≡◌, ◌⊎◌, ℕ, List, [], None, Some, false, option_map, true}
use Rattle.std.specs.Str.{IsUtf8}
use Rattle.json.specs.Json.{Json, document}
use Rattle.serde_json.specs.Written.{compact_text}
use Rattle.template_values_errors.specs.declared.ErrorKind.{ErrorKind}
use Rattle.template_requests.specs.Faults.{IsFault, IsFaultOf}
use Rattle.template_requests.specs.Says.{Says}
use Rattle.template_requests.specs.declared.faults.MessageFault.{MessageFault}
use Rattle.template_requests.specs.declared.faults.MessageFault.TheVariants.{Malformed, Memory}
use Rattle.template_requests.specs.declared.member.Member.{Member}
use Rattle.template_requests.specs.declared.member.Member.TheVariants as member
use Rattle.template_requests.specs.declared.message.Message.{Message}
use Rattle.template_requests.specs.declared.settings.Settings.{Settings}
use Rattle.template_program_parts.specs.Context.{text_pairs}
use Rattle.template_program_parts.specs.Status.{IsStatusOf}
use Rattle.template_program_parts.specs.declared.command.Command.{Command}
use Rattle.template_program_parts.specs.declared.outcome.Outcome.{Outcome}
use Rattle.template_program_parts.specs.declared.outcome.Outcome.TheVariants.{Done, Render, Context, Template}
use Rattle.template_program_run.specs.Answers.{definitions_of}
use Rattle.template_program_run.specs.Brought.{brought_if}
use Rattle.template_program_run.specs.Given.{AreJson, Given}
use Rattle.template_program_run.specs.Served.{Served, rule_under}
use Rattle.template_program_run.specs.declared.request.Request.{Request}
use Rattle.template_replies.specs.Answers.{IsAnswer}
use Rattle.template_requests.specs.Failures.{TellsFailure, malformed_data}
use Rattle.template_requests.specs.Syntaxes.{RefusesSyntax, syntax_of}

-- there is no memory for any reply
abbrev pub IsBare : ℕ → List ℕ → Type 0
IsBare status reply = (status ≡ 6) × (reply ≡ [])

-- the status with what is told, or no memory for that
abbrev pub IsTold : (List ℕ → Type 0) → ℕ → ℕ → List ℕ → Type 0
IsTold Telling with status reply = ((status ≡ with) × Telling reply) ⊎ IsBare status reply

-- the member is malformed
abbrev pub TellsMember : Member → ℕ → List ℕ → Type 0
TellsMember of status reply = IsTold (λ told. told ≡ compact_text (malformed_data of)) 2 status reply

-- the syntax is refused
abbrev pub TellsRefusal : List ErrorKind → ℕ → List ℕ → Type 0
TellsRefusal kinds status reply = IsTold (TellsFailure kinds []) 2 status reply

-- the reply of an outcome, where the text was written: that text, if all is done; else the error, and that text
abbrev pub TellsOutcome : Outcome → List ℕ → ℕ → List ℕ → Type 0
TellsOutcome Done text status reply = (status ≡ 0) × (reply ≡ text)
TellsOutcome (Render kinds) text status reply =
    (of : ℕ) × IsStatusOf (Render kinds) of × IsTold (TellsFailure kinds text) of status reply
TellsOutcome (Context kinds) text status reply =
    (of : ℕ) × IsStatusOf (Context kinds) of × IsTold (TellsFailure kinds text) of status reply
TellsOutcome (Template kinds) text status reply =
    (of : ℕ) × IsStatusOf (Template kinds) of × IsTold (TellsFailure kinds text) of status reply

-- what is asked by the settings, with no definitions
pub record IsAskedBy (asked : Command) (settings : Settings) (request : Request) : Type 0 where
  pub definitions : definitions_of request ≡ []
  pub fuel : request.fuel ≡ settings.fuel
  pub limit : request.limit ≡ settings.limit
  pub undefined : request.undefined ≡ settings.undefined
  pub command : request.command ≡ asked

-- the main template of the message, under its settings
abbrev pub IsAsked : Command → Message → Request → Type 0
IsAsked command message request = (request.main ≡ message.main) × IsAskedBy command message.settings request

-- the context of the message: one document of JSON, or none
pub record IsGiven (message : Message) (given : Given) : Type 0 where
  pub documents : AreJson (option_map (λ bytes. bytes.items) message.context) given.documents
  pub values : given.values ≡ []
  pub floats : given.floats ≡ message.settings.floats

-- what it is served with: names are told as JSON
abbrev pub served_by : Settings → Served
served_by settings = record {
  brought = brought_if settings.builtins;
  syntax = syntax_of settings.syntax;
  escapes = rule_under settings.autoescape;
  names_as_json = true;
  tells_where = false;
}

-- the request is run, and its outcome is told
abbrev pub Runs : Command → Message → ℕ → List ℕ → Type 0
Runs command message status reply =
    (request : Request) × IsAsked command message request
    × ((given : Given) × IsGiven message given
    × ((outcome : Outcome) × (text : List ℕ)
    × IsAnswer (served_by message.settings) request (text_pairs message.templates.items) given outcome text
    × TellsOutcome outcome text status reply))

-- its syntax is refused, or it is run
abbrev pub RepliesToMessage : Command → Message → ℕ → List ℕ → Type 0
RepliesToMessage command message status reply =
    ((kinds : List ErrorKind) × RefusesSyntax (syntax_of message.settings.syntax) kinds × TellsRefusal kinds status reply)
    ⊎ Runs command message status reply

-- a malformed member is told; without memory nothing is
abbrev pub RepliesToFault : MessageFault → ℕ → List ℕ → Type 0
RepliesToFault (Malformed of) status reply = TellsMember of status reply
RepliesToFault Memory status reply = IsBare status reply

-- a member is malformed, memory is wanting, or what the request says is done
abbrev pub RepliesToJson : Command → Json → ℕ → List ℕ → Type 0
RepliesToJson command j status reply =
    ((fault : MessageFault) × IsFault j fault × RepliesToFault fault status reply)
    ⊎ ((message : Message) × Says j message × RepliesToMessage command message status reply)

-- the bytes are no JSON, memory is wanting, or what the request says is done
abbrev pub Replies : Command → List ℕ → ℕ → List ℕ → Type 0
Replies command bytes status reply =
    ((fault : MessageFault) × IsFaultOf fault member.Whole (IsUtf8 bytes → document bytes ≡ None) × RepliesToFault fault status reply)
    ⊎ ((j : Json) × IsUtf8 bytes × (document bytes ≡ Some j) × RepliesToJson command j status reply)
