-- What a run takes, by the words.
use Rattle.std.specs.Prelude.{◌≡◌, ◌⊎◌, ℕ, List, [], map, Option, None, Some, string_bytes, if◌then◌else◌}
use Rattle.template_values_json.specs.declared.contexts.Floats.{Floats}
use Rattle.template_values_json.specs.declared.contexts.Floats.TheVariants.{AsSpelled, Refused}
use Rattle.template_values_errors.specs.declared.modes.UndefinedBehavior.{UndefinedBehavior}
use Rattle.template_values_errors.specs.declared.modes.UndefinedBehavior.TheVariants.{Lenient}
use Rattle.template_compiler_syntax.specs.Syntax.{Syntax}
use Rattle.template_program_contexts.specs.declared.documents.Form.{Form}
use Rattle.template_program_parts.specs.declared.command.Command.TheVariants as asked
use Rattle.template_program_parts.specs.declared.faults.FileFault.{FileFault}
use Rattle.template_program_parts.specs.declared.faults.FileFault.TheVariants as refusal
use Rattle.template_program_words.specs.Reading.{default_limit, parts_of}
use Rattle.template_program_words.specs.declared.words.Words.{Words}
use Rattle.template_program_words.specs.declared.words.Words.TheVariants as asks
use Rattle.template_program_run.specs.Answers.{definitions_of}
use Rattle.template_program_run.specs.Folders.{AreBelow, AreSifted, LacksSifted}
use Rattle.template_program_run.specs.Naming.{Naming, main_of, naming_of, reads_input}
use Rattle.template_program_run.specs.Origins.{AreFrom, LacksDocument, origins_of}
use Rattle.template_program_run.specs.Templates.{AreTemplates, LacksTemplate}
use Rattle.template_program_run.specs.Told.{Told}
use Rattle.template_program_run.specs.declared.request.Request.{Request}

-- the fuel, the limit, and what may be done with undefined values
abbrev pub HasLimits : Request → Option ℕ → ℕ → UndefinedBehavior → Type 0
HasLimits request fuel limit undefined =
    (request.fuel ≡ fuel) × (request.limit ≡ limit) × (request.undefined ≡ undefined)

-- The request is what the words ask for, unless that is a check. Names are told in an environment set as one begins.
abbrev pub IsAsked : Words → Request → Type 0
IsAsked (asks.Render read) request = (request.command ≡ asked.Render) × HasLimits request read.fuel read.limit read.undefined
    × (definitions_of request ≡ map parts_of read.definitions.items) × (string_bytes request.main ≡ main_of (naming_of (asks.Render read)))
IsAsked (asks.Names read) request = (request.command ≡ asked.Names) × HasLimits request None default_limit Lenient
    × (string_bytes request.main ≡ main_of (naming_of (asks.Names read)))
IsAsked (asks.Check read) request = ⊥

-- the words ask for a run, and not for a check
abbrev pub AskForRun : Words → Type 0
AskForRun (asks.Render read) = Unit {0}
AskForRun (asks.Names read) = Unit {0}
AskForRun (asks.Check read) = ⊥

-- the templates are those that the words name: of a folder, if one is given
abbrev pub AreTemplatesOf : Told → Option (List ℕ) → Naming → Syntax → List (List ℕ × List ℕ) → Type 0
AreTemplatesOf told None naming syntax additions = AreTemplates told.content told.input naming.paths additions (reads_input naming)
AreTemplatesOf told (Some folder) naming syntax additions = AreSifted told folder naming syntax additions

-- the templates that are checked: all those of a folder, if one is given
abbrev pub AreCheckedOf : Told → Option (List ℕ) → Naming → List (List ℕ × List ℕ) → Type 0
AreCheckedOf told None naming additions = AreTemplates told.content told.input naming.paths additions (reads_input naming)
AreCheckedOf told (Some folder) naming additions = AreBelow told folder naming additions

-- the values that are given as JSON, by the words
abbrev pub values_of : Words → List (List ℕ × List ℕ)
values_of (asks.Render read) = map parts_of read.values.items
values_of (asks.Names read) = []
values_of (asks.Check read) = []

-- what becomes of floats, by the words
abbrev pub floats_of : Words → Floats
floats_of (asks.Render read) = if read.float_texts then AsSpelled else Refused
floats_of (asks.Names read) = Refused
floats_of (asks.Check read) = Refused

-- the context is made of this: the documents of the files that the words name, the values, and what they say of floats
pub record IsGiven (told : Told) (words : Words) (documents : List (Form × List ℕ)) (values : List (List ℕ × List ℕ)) (floats : Floats) : Type 0 where
  pub documents_read : AreFrom told.content told.input (origins_of words) documents
  pub values_read : values ≡ values_of words
  pub floats_read : floats ≡ floats_of words

-- a template cannot be had: one of the folder's, if one is given
abbrev pub LacksTemplateOf : Told → Option (List ℕ) → Naming → Type 0
LacksTemplateOf told None naming = LacksTemplate told.content told.may_fail told.input naming.paths (reads_input naming)
LacksTemplateOf told (Some folder) naming = LacksSifted told folder naming

-- a file that the words name, or the input, cannot be had
abbrev pub LacksOne : Told → Words → Type 0
LacksOne told words =
    LacksTemplateOf told (naming_of words).folder (naming_of words) ⊎ LacksDocument told.content told.may_fail told.input (origins_of words)

-- a file or an input is refused: want of memory may be seen at any time
abbrev pub RefusesInputs : Told → Words → FileFault → Type 0
RefusesInputs told words refusal.File = LacksOne told words
RefusesInputs told words refusal.Memory = Unit {0}
