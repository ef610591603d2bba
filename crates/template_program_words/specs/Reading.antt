-- What the words ask for, by what `clap` finds in them.
use Rattle.std.specs.Prelude.{◌≡◌, ◌<◌, ◌^◌, ℕ, Bool, false, List, [], map, codes, Option, None, Some, unwrap_or, option_map, All, Contains, bytes_eq}
use Rattle.std.specs.Borrow.{Bor}
use Rattle.std.specs.Option.{SomeIff}
use Rattle.std.specs.Str.Parse.{IsNumeral, digits_value, without_leading_plus}
use Rattle.clap.specs.Words.{Row, all_of, first_of, one_of}
use Rattle.template_program_words.specs.Definitions.{equals_sign, definition_name, definition_text}
use Rattle.template_program_words.specs.Escapes.{escape_of}
use Rattle.template_program_words.specs.Floats.{floats_of}
use Rattle.template_program_words.specs.Modes.{mode_of}
use Rattle.template_program_words.specs.declared.definitions.Definition.{Definition}
use Rattle.template_program_words.specs.declared.syntax.SyntaxWords.{SyntaxWords}
use Rattle.template_program_words.specs.declared.words.CheckWords.{CheckWords}
use Rattle.template_program_words.specs.declared.words.NamesWords.{NamesWords}
use Rattle.template_program_words.specs.declared.words.RenderWords.{RenderWords}
use Rattle.template_program_words.specs.declared.words.Words.{Words}
use Rattle.template_program_words.specs.declared.words.Words.TheVariants.{Render, Names, Check}

-- all values of an option or of the files
abbrev pub values_of : List ℕ → List Row → List (List ℕ)
values_of id rows = unwrap_or (all_of id rows) []

-- the parts of a definition
abbrev pub parts_of : Definition → List ℕ × List ℕ
parts_of definition = (definition.name.now, definition.text.now)

abbrev pub parts_in : List ℕ → List ℕ × List ℕ
parts_in words = (definition_name words, definition_text words)

-- these definitions stand in these words, one in each
pub record Defines (words : List (List ℕ)) (definitions : List Definition) : Type 0 where
  pub signed : All (λ text. Contains text equals_sign) words
  pub parts : map parts_of definitions ≡ map parts_in words

-- a number of so many bits in decimal digits, with `+` before it or none
abbrev pub ReadsNumber : ℕ → Option (List ℕ) → Option ℕ → Type 0
ReadsNumber bits None number = number ≡ None
ReadsNumber bits (Some text) number =
    let digits = without_leading_plus text in
    SomeIff number (IsNumeral 10 digits × (digits_value 10 digits < 2 ^ bits)) (digits_value 10 digits)

-- how deep a render may be where no number says it
abbrev pub default_limit : ℕ
default_limit = 500

-- a number of 16 bits, or else the default
abbrev pub ReadsLimit : Option (List ℕ) → ℕ → Type 0
ReadsLimit text limit = (number : Option ℕ) × ReadsNumber 16 text number × (limit ≡ unwrap_or number default_limit)

-- a flag is set where its text, as `clap` reads it, is `true`
abbrev pub is_set : Option (List ℕ) → Bool
is_set None = false
is_set (Some text) = bytes_eq text (codes "true")

-- the flag of this name is set
abbrev pub has_flag : List ℕ → List Row → Bool
has_flag name rows = is_set (one_of name rows)

-- the text of the option of this name
abbrev pub ReadsText : List ℕ → List Row → Option (Bor (List ℕ)) → Type 0
ReadsText name rows read = option_map (λ text. text.now) read ≡ first_of name rows

-- the words of the syntax
pub record ReadsSyntax (rows : List Row) (read : SyntaxWords) : Type 0 where
  pub trim_blocks : read.trim_blocks ≡ has_flag (codes "trim-blocks") rows
  pub lstrip_blocks : read.lstrip_blocks ≡ has_flag (codes "lstrip-blocks") rows
  pub keep_trailing_newline : read.keep_trailing_newline ≡ has_flag (codes "keep-trailing-newline") rows
  pub scoped_blocks : read.scoped_blocks ≡ has_flag (codes "scoped-blocks") rows
  pub line_statement : ReadsText (codes "line-statement") rows read.line_statement
  pub line_comment : ReadsText (codes "line-comment") rows read.line_comment
  pub block_start : ReadsText (codes "block-start") rows read.block_start
  pub block_end : ReadsText (codes "block-end") rows read.block_end
  pub variable_start : ReadsText (codes "variable-start") rows read.variable_start
  pub variable_end : ReadsText (codes "variable-end") rows read.variable_end
  pub comment_start : ReadsText (codes "comment-start") rows read.comment_start
  pub comment_end : ReadsText (codes "comment-end") rows read.comment_end

-- the words behind `render`
pub record ReadsRender (rows : List Row) (read : RenderWords) : Type 0 where
  pub context : ReadsText (codes "context") rows read.context
  pub definitions : Defines (values_of (codes "definition") rows) read.definitions.items
  pub values : Defines (values_of (codes "json") rows) read.values.items
  pub data_files : map (λ path. path.now) read.data_files.items ≡ values_of (codes "data") rows
  pub float_texts : floats_of (first_of (codes "floats") rows) ≡ Some read.float_texts
  pub expression : ReadsText (codes "expression") rows read.expression
  pub as_json : read.as_json ≡ has_flag (codes "as-json") rows
  pub fuel : ReadsNumber 64 (one_of (codes "fuel") rows) read.fuel
  pub limit : ReadsLimit (one_of (codes "limit") rows) read.limit
  pub undefined : mode_of (first_of (codes "undefined") rows) ≡ Some read.undefined
  pub autoescape : escape_of (first_of (codes "autoescape") rows) ≡ Some read.autoescape
  pub builtins : read.builtins ≡ has_flag (codes "builtins") rows
  pub syntax : ReadsSyntax rows read.syntax
  pub main : ReadsText (codes "main") rows read.main
  pub output : ReadsText (codes "output") rows read.output
  pub tells_where : read.tells_where ≡ has_flag (codes "where") rows
  pub templates : ReadsText (codes "templates") rows read.templates
  pub files : map (λ path. path.now) read.files.items ≡ values_of (codes "files") rows

-- the words behind `names`
pub record ReadsNames (rows : List Row) (read : NamesWords) : Type 0 where
  pub builtins : read.builtins ≡ has_flag (codes "builtins") rows
  pub syntax : ReadsSyntax rows read.syntax
  pub main : ReadsText (codes "main") rows read.main
  pub output : ReadsText (codes "output") rows read.output
  pub tells_where : read.tells_where ≡ has_flag (codes "where") rows
  pub json : read.json ≡ has_flag (codes "json") rows
  pub templates : ReadsText (codes "templates") rows read.templates
  pub files : map (λ path. path.now) read.files.items ≡ values_of (codes "files") rows

-- the words behind `check`
pub record ReadsCheck (rows : List Row) (read : CheckWords) : Type 0 where
  pub builtins : read.builtins ≡ has_flag (codes "builtins") rows
  pub syntax : ReadsSyntax rows read.syntax
  pub templates : ReadsText (codes "templates") rows read.templates
  pub files : map (λ path. path.now) read.files.items ≡ values_of (codes "files") rows

-- the command that was found, and the words behind it
abbrev pub ReadsWords : Option (List ℕ × List Row) → Words → Type 0
ReadsWords found (Render read) =
    (rows : List Row) × (found ≡ Some (codes "render", rows)) × ReadsRender rows read
ReadsWords found (Names read) =
    (rows : List Row) × (found ≡ Some (codes "names", rows)) × ReadsNames rows read
ReadsWords found (Check read) =
    (rows : List Row) × (found ≡ Some (codes "check", rows)) × ReadsCheck rows read
