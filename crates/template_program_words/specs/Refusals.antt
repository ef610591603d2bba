-- Why the words are refused, by the kinds of error that `clap` may give for them and by what it
-- finds in them.
use Rattle.std.specs.Prelude.{◌≡◌, ◌≢◌, ◌⊎◌, ⊤, ℕ, List, [], codes, Option, None, Some, Contains, option_map}
use Rattle.clap.specs.Words.{IsAmong, Kinds, Row, first_of}
use Rattle.clap.specs.declared.error.kind.ErrorKind.{ErrorKind}
use Rattle.clap.specs.declared.error.kind.ErrorKind.TheVariants.{DisplayHelp, DisplayVersion, OutOfMemory}
use Rattle.template_program_words.specs.Definitions.{equals_sign}
use Rattle.template_program_words.specs.Escapes.{escape_of}
use Rattle.template_program_words.specs.Floats.{floats_of}
use Rattle.template_program_words.specs.Modes.{mode_of}
use Rattle.template_program_words.specs.Reading.{values_of}
use Rattle.template_program_words.specs.declared.faults.WordsFault.{WordsFault}
use Rattle.template_program_words.specs.declared.faults.WordsFault.TheVariants.{Memory, Help, Version, Usage, Definition}

-- neither help nor the version nor want of memory
abbrev pub IsMistake : ErrorKind → Type 0
IsMistake kind = (kind ≢ DisplayHelp) × (kind ≢ DisplayVersion) × (kind ≢ OutOfMemory)

-- the fault that an error of this kind is; that no memory is left may also be seen late
abbrev pub IsWordsFault : ErrorKind → WordsFault → Type 0
IsWordsFault kind Memory = ⊤
IsWordsFault kind (Help text) = kind ≡ DisplayHelp
IsWordsFault kind (Version text) = kind ≡ DisplayVersion
IsWordsFault kind (Usage text) = IsMistake kind
IsWordsFault kind Definition = ⊥

-- a text for the user; that no memory is left may be seen here too
abbrev pub IsUsage : WordsFault → Type 0
IsUsage Memory = ⊤
IsUsage (Usage text) = ⊤
IsUsage fault = ⊥

-- a definition has no `=`
abbrev pub LacksSign : List (List ℕ) → Type 0
LacksSign words = (text : List ℕ) × Contains words text × ¬ (Contains text equals_sign)

-- none of the commands was found
abbrev pub FindsNone : Option (List ℕ × List Row) → Type 0
FindsNone found = (option_map (λ f. f.0) found ≢ Some (codes "render"))
    × (option_map (λ f. f.0) found ≢ Some (codes "names"))
    × (option_map (λ f. f.0) found ≢ Some (codes "check"))

-- no mode has this name
abbrev pub NamesNoMode : List Row → Type 0
NamesNoMode rows = mode_of (first_of (codes "undefined") rows) ≡ None

-- values are escaped in no way of this name
abbrev pub NamesNoEscape : List Row → Type 0
NamesNoEscape rows = escape_of (first_of (codes "autoescape") rows) ≡ None

-- no form of floats has this name
abbrev pub NamesNoFloats : List Row → Type 0
NamesNoFloats rows = floats_of (first_of (codes "floats") rows) ≡ None

-- an option has a value that is none of those that it takes
abbrev pub NamesNone : List Row → Type 0
NamesNone rows = NamesNoMode rows ⊎ (NamesNoEscape rows ⊎ NamesNoFloats rows)

-- a definition or a value has no `=`
abbrev pub LacksOneSign : List Row → Type 0
LacksOneSign rows = LacksSign (values_of (codes "definition") rows) ⊎ LacksSign (values_of (codes "json") rows)

-- a text for the user, for this reason
abbrev pub RefusesFor : Type 0 → WordsFault → Type 0
RefusesFor Reason Memory = ⊤
RefusesFor Reason (Usage text) = Reason
RefusesFor Reason fault = ⊥

-- the words behind `render`, that `clap` takes: a value that is none comes first, and then a definition with no `=`
abbrev pub RefusesRender : List Row → WordsFault → Type 0
RefusesRender rows Memory = ⊤
RefusesRender rows (Help text) = ⊥
RefusesRender rows (Version text) = ⊥
RefusesRender rows (Usage text) = NamesNone rows
RefusesRender rows Definition = ¬ (NamesNone rows) × LacksOneSign rows

-- the words that `clap` takes
abbrev pub RefusesFound : Option (List ℕ × List Row) → WordsFault → Type 0
RefusesFound found fault = (rows : List Row) × (found ≡ Some (codes "render", rows)) × RefusesRender rows fault

-- `clap`'s refusals come first
abbrev pub RefusesWords : Kinds → Option (List ℕ × List Row) → WordsFault → Type 0
RefusesWords kinds found Memory = ⊤
RefusesWords kinds found (Help text) = IsAmong DisplayHelp kinds
RefusesWords kinds found (Version text) = IsAmong DisplayVersion kinds
RefusesWords kinds found (Usage text) = ((kind : ErrorKind) × IsAmong kind kinds × IsMistake kind)
    ⊎ ((kinds ≡ []) × (FindsNone found ⊎ RefusesFound found (Usage text)))
RefusesWords kinds found Definition = (kinds ≡ []) × RefusesFound found Definition

-- the same of the definitions alone
abbrev pub RefusesDefinitions : List (List ℕ) → WordsFault → Type 0
RefusesDefinitions words Memory = ⊤
RefusesDefinitions words Definition = LacksSign words
RefusesDefinitions words _ = ⊥
