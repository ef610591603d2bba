-- Where the documents of the context come from.
use Rattle.std.specs.Prelude.{◌≡◌, ◌⊎◌, ℕ, Bool, true, false, codes, bytes_eq, nat_eq, List, [], ◌∷◌, ◌++◌, map, Contains, IfSome, Option, None, Some, option_map, if◌then◌else◌}
use Rattle.std.specs.List.{AllZip, ends_with, list_any}
use Rattle.template_program_contexts.specs.declared.documents.Document.{Document}
use Rattle.template_program_contexts.specs.declared.documents.Form.{Form}
use Rattle.template_program_contexts.specs.declared.documents.Form.TheVariants.{Json, Toml}
use Rattle.template_program_parts.specs.Reading.{LacksFile}
use Rattle.template_program_words.specs.declared.words.Words.{Words}
use Rattle.template_program_words.specs.declared.words.Words.TheVariants as asks
use Rattle.template_program_run.specs.Templates.{input_limit}

-- a file, by its path, or the input
pub data Origin : Type 0 where
  file : List ℕ → Form → Origin
  input : Origin

-- a file whose name ends in `.toml` is TOML, any other one JSON
abbrev pub form_of : List ℕ → Form
form_of path = if ends_with nat_eq path (codes ".toml") then Toml else Json

-- `-` names the input
abbrev pub data_origin : List ℕ → Origin
data_origin path = if bytes_eq path (codes "-") then input else file path (form_of path)

-- the file of the context is JSON
abbrev pub context_origins : Option (List ℕ) → List Origin
context_origins None = []
context_origins (Some path) = file path Json ∷ []

-- the context's file, and then the data, as the words name them; names are told without
abbrev pub origins_of : Words → List Origin
origins_of (asks.Render read) =
    context_origins (option_map (λ path. path.now) read.context) ++ map data_origin (map (λ path. path.now) read.data_files.items)
origins_of (asks.Names read) = []
origins_of (asks.Check read) = []

abbrev pub is_input : Origin → Bool
is_input (file path form) = false
is_input input = true

-- whether one of them is the input
abbrev pub hold_input : List Origin → Bool
hold_input origins = list_any is_input origins

-- what a document is, and its bytes
abbrev pub shown_as : Document → Form × List ℕ
shown_as d = (d.form, d.bytes.now)

-- this is what stands there, where that is told; the input is JSON
abbrev pub IsFrom : (List ℕ → Option (List ℕ)) → Option (List ℕ) → Origin → Form × List ℕ → Type 0
IsFrom content given (file path form) d = (d.0 ≡ form) × IfSome (content path) (λ all. d.1 ≡ all)
IsFrom content given input d = (d.0 ≡ Json) × IfSome given (λ all. d.1 ≡ all)

abbrev pub AreFrom : (List ℕ → Option (List ℕ)) → Option (List ℕ) → List Origin → List (Form × List ℕ) → Type 0
AreFrom content given origins documents = AllZip (IsFrom content given) origins documents

-- the file that stands there cannot be had
abbrev pub LacksAt : (List ℕ → Option (List ℕ)) → Origin → Type 0
LacksAt content (file path form) = LacksFile (content path) input_limit
LacksAt content input = ⊥

-- one of the files cannot be had
abbrev pub LacksDataFile : (List ℕ → Option (List ℕ)) → List Origin → Type 0
LacksDataFile content origins = (origin : Origin) × Contains origins origin × LacksAt content origin

-- the input is read for them, and cannot be had
abbrev pub LacksPiped : Bool → Option (List ℕ) → Bool → Type 0
LacksPiped may_fail given true = may_fail ≡ false → LacksFile given input_limit
LacksPiped may_fail given false = ⊥

-- one of the documents cannot be had
abbrev pub LacksDocument : (List ℕ → Option (List ℕ)) → Bool → Option (List ℕ) → List Origin → Type 0
LacksDocument content may_fail given origins = LacksDataFile content origins ⊎ LacksPiped may_fail given (hold_input origins)
