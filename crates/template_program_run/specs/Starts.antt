-- How the program's body ends, by its words.
use Rattle.std.specs.Prelude.{◌≡◌, ◌⊎◌, ℕ, Bool, true, false, List, [], ◌∷◌, map, codes, IfSome, OnOk, Option, None, Some, Result, string_bytes}
use Rattle.std.specs.Io.KnownBytes.{Keeps, append_known}
use Rattle.std.specs.declared.io.Error.{Error}
use Rattle.std.specs.declared.io.ErrorKind.{ErrorKind as IoKind}
use Rattle.std.specs.declared.io.ErrorKind.TheVariants as io
use Rattle.clap.specs.Words.{Kinds, Row}
use Rattle.template_values_errors.specs.declared.ErrorKind.TheVariants.{InvalidDelimiter, OutOfMemory}
use Rattle.template_values_errors.specs.Memory.{NoMemory}
use Rattle.template_values_errors.specs.declared.ErrorKind.{ErrorKind}
use Rattle.template_compiler_syntax.specs.Syntax.{IsUsable, Syntax}
use Rattle.template_program_parts.specs.declared.faults.FileFault.{FileFault}
use Rattle.template_program_parts.specs.declared.faults.FileFault.TheVariants as refusal
use Rattle.template_program_words.specs.Reading.{ReadsWords}
use Rattle.template_program_words.specs.Refusals.{RefusesWords}
use Rattle.template_program_words.specs.declared.faults.WordsFault.{WordsFault}
use Rattle.template_program_words.specs.declared.faults.WordsFault.TheVariants.{Memory, Help, Version, Usage, Definition}
use Rattle.template_program_words.specs.declared.words.Words.{Words}
use Rattle.template_program_words.specs.declared.words.Words.TheVariants as asks
use Rattle.template_program_run.specs.Expressions.{AnswersAsked, Asked, expression_word}
use Rattle.template_program_run.specs.Asked.{output_word, served_by, syntax_set, syntax_words}
use Rattle.template_program_run.specs.Served.{Served}
use Rattle.template_program_parts.specs.declared.outcome.Outcome.{Outcome}
use Rattle.template_program_parts.specs.declared.outcome.Outcome.TheVariants.{Done, Render, Context, Template}
use Rattle.template_program_run.specs.declared.request.Request.{Request}
use Rattle.template_program_parts.specs.Flushes.{flushed}
use Rattle.template_program_parts.specs.Status.{IsStatusOf}
use Rattle.template_program_run.specs.Status.{file_status, syntax_status}
use Rattle.template_program_run.specs.Inputs.{AreCheckedOf, AreTemplatesOf, IsAsked, IsGiven, RefusesInputs}
use Rattle.template_program_run.specs.Given.{Given}
use Rattle.template_program_run.specs.Naming.{naming_of}
use Rattle.template_program_run.specs.Origins.{shown_as}
use Rattle.template_program_run.specs.Told.{Told}
use Rattle.template_program_run.specs.Values.{AreJsonTexts, RefusesValues, value_texts}
use Rattle.template_program_files.specs.Written.{IsRefused, IsWritten}
use Rattle.template_program_output.specs.Answer.{Answer, failures_among}
use Rattle.template_program_output.specs.Lines.{error_line, fault_line}
use Rattle.template_program_output.specs.Shown.{IsFlushed, Puts, PutsFlushed, Shown, TellsResult}
use Rattle.template_program_places.specs.Told.{PutsBefore}
use Rattle.template_program_check.specs.Ends.{EndsCheck}

-- the status of words that are refused, or that ask for help
abbrev pub words_status : WordsFault → ℕ
words_status Memory = 6
words_status (Help text) = 0
words_status (Version text) = 0
words_status (Usage text) = 2
words_status Definition = 2

-- how often an output has failed, where it tells
abbrev pub HasFailed : Option (List Answer) → ℕ → Type 0
HasFailed answers fails = IfSome answers (λ told. fails ≡ failures_among told)

-- The request is run over an output, and what it wrote is flushed. Where that goes well the output holds all of it, and
-- its last answer was to a flush. Else it holds a beginning, the rest was not written, and the output failed, if not for
-- want of memory.
pub record RunsFlushed (wanted : Option Asked) (request : Request) (served : Served) (additions : List (List ℕ × List ℕ)) (given : Given)
    (before after : Shown) (outcome : Outcome) : Type 0 where
  pub ran : Outcome
  pub flush : Result (Unit {0}) Error
  pub written : Option (List ℕ)
  pub rest : List ℕ
  pub answers : Option (List Answer)
  pub failed : ℕ
  pub fails : ℕ
  pub runs : AnswersAsked wanted served request additions given 0 ran before.bytes written failed fails
  pub becomes : outcome ≡ flushed flush ran
  pub holds : Keeps written (append_known after.bytes rest)
  pub all : OnOk flush (rest ≡ [])
  pub last : OnOk flush (IsFlushed after.answers)
  pub failed_before : HasFailed before.answers failed
  pub failed_then : HasFailed answers fails
  pub told : TellsResult answers after.answers flush

-- the line that tells want of memory
abbrev pub memory_line : List ℕ
memory_line = error_line (OutOfMemory ∷ [])

-- a fault line is written, and behind it some text where places are asked for, or a beginning where that fails
abbrev pub TellsLine : Bool → List ℕ → Shown → Shown → Type 0
TellsLine false line before after = Puts before after line
TellsLine true line before after = PutsBefore before after line

-- the fault line of an error is written so
abbrev pub TellsError : Bool → List ErrorKind → Shown → Shown → Type 0
TellsError tells_where kinds before after = TellsLine tells_where (error_line kinds) before after

-- the error of an outcome is told, with its places or without; nothing is where all is done
abbrev pub TellsOutcome : Bool → Outcome → Shown → Shown → Type 0
TellsOutcome tells_where Done before after = after ≡ before
TellsOutcome tells_where (Render kinds) before after = TellsError tells_where kinds before after
TellsOutcome tells_where (Context kinds) before after = TellsError tells_where kinds before after
TellsOutcome tells_where (Template kinds) before after = TellsError tells_where kinds before after

-- The status is that of the outcome, and its fault is told. Where there is no memory for the output's buffer, nothing is
-- written, and that is told.
abbrev pub PerformsRequest : Option Asked → Request → Served → List (List ℕ × List ℕ) → Given → Shown → Shown → Shown → Shown → ℕ → Type 0
PerformsRequest wanted request served additions given out out_after fault fault_after result =
    ((result ≡ 6) × (out_after ≡ out) × Puts fault fault_after memory_line)
    ⊎ ((outcome : Outcome) × RunsFlushed wanted request served additions given out out_after outcome × IsStatusOf outcome result
    × TellsOutcome served.tells_where outcome fault fault_after)

-- the line of a file or an input that is refused
abbrev pub file_line : FileFault → List ℕ
file_line refusal.File = fault_line (codes "File")
file_line refusal.Memory = memory_line

-- The request is run over a file, which shows what is told of it when it is opened, and takes its place where the status is 0.
-- Or the file cannot be opened, or cannot take its place when all is written, and that is told.
abbrev pub PerformsInto : Option Asked → Option Shown → (Shown → Type 0) → Request → Served → List (List ℕ × List ℕ) → Given
    → Shown → Shown → ℕ → Type 0
PerformsInto wanted fresh Placed request served additions given fault fault_after result =
    IsWritten fresh Placed (λ before after. PerformsRequest wanted request served additions given before after fault fault_after result) result
    ⊎ ((refused : FileFault) × (told : Shown)
    × IsRefused fresh fault told (λ before after. PerformsRequest wanted request served additions given before after fault told 0)
    × (refused ≡ refusal.File → fresh ≡ None) × (result ≡ file_status refused) × TellsLine served.tells_where (file_line refused) told fault_after)

-- It is run over the output; or over the file of a path, if one is given, and then the output stays as it is.
abbrev pub PerformsTo : Option Asked → Option (List ℕ) → (List ℕ → Option Shown) → (List ℕ → Shown → Type 0) → Request → Served
    → List (List ℕ × List ℕ) → Given → Shown → Shown → Shown → Shown → ℕ → Type 0
PerformsTo wanted None fresh Placed request served additions given out out_after fault fault_after result =
    PerformsRequest wanted request served additions given out out_after fault fault_after result
PerformsTo wanted (Some path) fresh Placed request served additions given out out_after fault fault_after result =
    (out_after ≡ out) × PerformsInto wanted (fresh path) (Placed path) request served additions given fault fault_after result

-- what is written to the output, and told, of words that are refused
abbrev pub TellsWords : WordsFault → Shown → Shown → Shown → Shown → Type 0
TellsWords Memory out out_after fault fault_after = (out_after ≡ out) × Puts fault fault_after memory_line
TellsWords (Help text) out out_after fault fault_after = PutsFlushed out out_after (string_bytes text) × (fault_after ≡ fault)
TellsWords (Version text) out out_after fault fault_after =
    PutsFlushed out out_after (string_bytes text) × (fault_after ≡ fault)
TellsWords (Usage text) out out_after fault fault_after = (out_after ≡ out) × Puts fault fault_after (string_bytes text)
TellsWords Definition out out_after fault fault_after =
    (out_after ≡ out) × Puts fault fault_after (fault_line (codes "Arguments"))

-- the line of arguments that cannot be had
abbrev pub arguments_line : IoKind → List ℕ
arguments_line io.OutOfMemory = memory_line
arguments_line _ = fault_line (codes "Arguments")

-- why a syntax is refused: segments cannot be told apart in it, or memory is wanting
abbrev pub RefusesSyntax : Syntax → List ErrorKind → Type 0
RefusesSyntax syntax kinds = ((kinds ≡ InvalidDelimiter ∷ []) × ¬ IsUsable syntax) ⊎ NoMemory kinds

-- a file that the words name is refused, with its status and the line of its fault
abbrev pub RefusesFile : Words → Told → Shown → Shown → Shown → Shown → ℕ → Type 0
RefusesFile words told out out_after fault fault_after result = (refused : FileFault) × RefusesInputs told words refused
    × (result ≡ file_status refused) × (out_after ≡ out)
    × TellsLine (served_by words).tells_where (file_line refused) fault fault_after

-- The files that the words name are read, or one is refused, and the request of the words is run with them.
abbrev pub RunsWords : Words → Told → (List ℕ → Option Shown) → (List ℕ → Shown → Type 0) → Shown → Shown → Shown → Shown → ℕ → Type 0
RunsWords words told fresh Placed out out_after fault fault_after result =
    RefusesFile words told out out_after fault fault_after result
    ⊎ ((request : Request) × (additions : List (List ℕ × List ℕ)) × (given : Given) × IsAsked words request
    × AreTemplatesOf told (naming_of words).folder (naming_of words) (served_by words).syntax additions
    × IsGiven told words (map shown_as given.documents) given.values given.floats
    × PerformsTo (expression_word words) (output_word words) fresh Placed request (served_by words) additions given out out_after fault fault_after result)

-- The templates that the words name are read, or one of their files is refused, and they are checked.
abbrev pub ChecksWords : Words → Bool → Told → Shown → Shown → Shown → Shown → ℕ → Type 0
ChecksWords words builtins told out out_after fault fault_after result =
    RefusesFile words told out out_after fault fault_after result
    ⊎ ((additions : List (List ℕ × List ℕ)) × AreCheckedOf told (naming_of words).folder (naming_of words) additions
    × EndsCheck (syntax_set (syntax_words words)) builtins additions out out_after fault fault_after result)

-- what the words ask for is done
abbrev pub DoesWords : Words → Told → (List ℕ → Option Shown) → (List ℕ → Shown → Type 0) → Shown → Shown → Shown → Shown → ℕ → Type 0
DoesWords (asks.Render read) told fresh Placed out out_after fault fault_after result =
    RunsWords (asks.Render read) told fresh Placed out out_after fault fault_after result
DoesWords (asks.Names read) told fresh Placed out out_after fault fault_after result =
    RunsWords (asks.Names read) told fresh Placed out out_after fault fault_after result
DoesWords (asks.Check read) told fresh Placed out out_after fault fault_after result =
    ChecksWords (asks.Check read) read.builtins told out out_after fault fault_after result

-- The syntax that the words set is refused, before any file is read, and that is told. Else they are done.
abbrev pub DoesUnderSyntax : Words → Told → (List ℕ → Option Shown) → (List ℕ → Shown → Type 0) → Shown → Shown → Shown → Shown → ℕ → Type 0
DoesUnderSyntax words told fresh Placed out out_after fault fault_after result =
    ((kinds : List ErrorKind) × RefusesSyntax (syntax_set (syntax_words words)) kinds × (result ≡ syntax_status kinds)
    × (out_after ≡ out) × Puts fault fault_after (error_line kinds))
    ⊎ (IsUsable (syntax_set (syntax_words words)) × DoesWords words told fresh Placed out out_after fault fault_after result)

-- A value that is given as JSON is none, and that is told as the fault of a definition is. Else the words are done under the
-- syntax that they set.
abbrev pub FollowsWords : Words → Told → (List ℕ → Option Shown) → (List ℕ → Shown → Type 0) → Shown → Shown → Shown → Shown → ℕ → Type 0
FollowsWords words told fresh Placed out out_after fault fault_after result =
    ((refused : WordsFault) × RefusesValues (value_texts words) refused × (result ≡ words_status refused)
    × TellsWords refused out out_after fault fault_after)
    ⊎ (AreJsonTexts (value_texts words) × DoesUnderSyntax words told fresh Placed out out_after fault fault_after result)

-- Words that are refused have their status, and are told. Else they are followed.
abbrev pub Starts : Kinds → Option (List ℕ × List Row) → Told → (List ℕ → Option Shown) → (List ℕ → Shown → Type 0)
    → Shown → Shown → Shown → Shown → ℕ → Type 0
Starts kinds found told fresh Placed out out_after fault fault_after result =
    ((refused : WordsFault) × RefusesWords kinds found refused × (result ≡ words_status refused)
    × TellsWords refused out out_after fault fault_after)
    ⊎ ((words : Words) × ReadsWords found words × (kinds ≡ [])
    × FollowsWords words told fresh Placed out out_after fault fault_after result)
