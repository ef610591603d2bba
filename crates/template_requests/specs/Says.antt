-- What a request says, by its JSON.
use Rattle.std.specs.Prelude.{◌≡◌, ℕ, List, codes, Option, None, Some, IsSomeAnd, option_map, option_and_then, string_bytes, unwrap_or}
use Rattle.std.specs.Borrow.{Bor}
use Rattle.json.specs.Json.{Json}
use Rattle.json.specs.Find.{as_object, as_str}
use Rattle.json.specs.Print.{print}
use Rattle.json.specs.Tree.{json_tokens}
use Rattle.template_requests.specs.Words.{escape_of, floats_of, mode_of}
use Rattle.template_requests.specs.declared.syntax.SyntaxParts.{SyntaxParts}
use Rattle.template_requests.specs.Members.{SaysNumber, flag_of, given, text_of}
use Rattle.template_requests.specs.Templates.{SaysTexts}
use Rattle.template_requests.specs.declared.message.Message.{Message}
use Rattle.template_requests.specs.declared.opening.Opening.{Opening}
use Rattle.template_requests.specs.declared.settings.Settings.{Settings}

-- the text of a part of the syntax, if one is given
abbrev pub SaysText : List ℕ → Json → Option (Bor (List ℕ)) → Type 0
SaysText name j text = text_of (given name j) ≡ Some (option_map (λ text. text.now) text)

-- it is an object
abbrev pub IsObject : Json → Type 0
IsObject j = IsSomeAnd (as_object j) (λ _. Unit {0})

-- the syntax that an object says
pub record SaysParts (j : Json) (parts : SyntaxParts) : Type 0 where
  pub object : IsObject j
  pub trim_blocks : flag_of (given (codes "trim_blocks") j) ≡ Some parts.trim_blocks
  pub lstrip_blocks : flag_of (given (codes "lstrip_blocks") j) ≡ Some parts.lstrip_blocks
  pub keep_trailing_newline : flag_of (given (codes "keep_trailing_newline") j) ≡ Some parts.keep_trailing_newline
  pub scoped_blocks : flag_of (given (codes "scoped_blocks") j) ≡ Some parts.scoped_blocks
  pub line_statement_prefix : SaysText (codes "line_statement_prefix") j parts.line_statement_prefix
  pub line_comment_prefix : SaysText (codes "line_comment_prefix") j parts.line_comment_prefix
  pub block_start : SaysText (codes "block_start") j parts.block_start
  pub block_end : SaysText (codes "block_end") j parts.block_end
  pub variable_start : SaysText (codes "variable_start") j parts.variable_start
  pub variable_end : SaysText (codes "variable_end") j parts.variable_end
  pub comment_start : SaysText (codes "comment_start") j parts.comment_start
  pub comment_end : SaysText (codes "comment_end") j parts.comment_end

-- the syntax, if one is given
abbrev pub SaysSyntax : Option Json → Option SyntaxParts → Type 0
SaysSyntax None parts = parts ≡ None
SaysSyntax (Some j) parts = IsSomeAnd parts (SaysParts j)

-- how deep a render may be where no number says it
abbrev pub default_limit : ℕ
default_limit = 500

-- the number, or else the default
abbrev pub SaysLimit : Option Json → ℕ → Type 0
SaysLimit j limit = (number : Option ℕ) × SaysNumber j number × (limit ≡ unwrap_or number default_limit)

-- the settings of an environment
pub record SaysSettings (j : Json) (settings : Settings) : Type 0 where
  pub fuel : SaysNumber (given (codes "fuel") j) settings.fuel
  pub limit : SaysLimit (given (codes "limit") j) settings.limit
  pub undefined : option_and_then mode_of (text_of (given (codes "undefined") j)) ≡ Some settings.undefined
  pub builtins : flag_of (given (codes "builtins") j) ≡ Some settings.builtins
  pub floats : option_and_then floats_of (text_of (given (codes "floats") j)) ≡ Some settings.floats
  pub autoescape : option_and_then escape_of (text_of (given (codes "autoescape") j)) ≡ Some settings.autoescape
  pub syntax : SaysSyntax (given (codes "syntax") j) settings.syntax

-- the bytes of the context, if one is given: its text
abbrev pub context_of : Option Json → Option (List ℕ)
context_of j = option_map (λ context. print (json_tokens context)) j

-- the request
pub record Says (j : Json) (message : Message) : Type 0 where
  pub object : IsObject j
  pub templates : SaysTexts (given (codes "templates") j) message.templates.items
  pub main : option_and_then as_str (given (codes "main") j) ≡ Some (string_bytes message.main)
  pub context : option_map (λ bytes. bytes.items) message.context ≡ context_of (given (codes "context") j)
  pub settings : SaysSettings j message.settings

-- what a session is opened with
pub record SaysOpening (j : Json) (opening : Opening) : Type 0 where
  pub object : IsObject j
  pub templates : SaysTexts (given (codes "templates") j) opening.templates.items
  pub settings : SaysSettings j opening.settings
