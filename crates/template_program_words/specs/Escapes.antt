-- What the word behind `--autoescape` stands for.
use Rattle.std.specs.Prelude.{ℕ, List, Option, None, Some, if◌then◌else◌, bytes_eq, codes}
use Rattle.template_program_words.specs.declared.escapes.EscapeWord.{EscapeWord}
use Rattle.template_program_words.specs.declared.escapes.EscapeWord.TheVariants as word

abbrev pub escape_named : List ℕ → Option EscapeWord
escape_named text =
    if bytes_eq (codes "none") text then Some word.None
    else if bytes_eq (codes "html") text then Some word.Html
    else if bytes_eq (codes "json") text then Some word.Json
    else if bytes_eq (codes "name") text then Some word.Name
    else None

-- by the template's name where there is no word
abbrev pub escape_of : Option (List ℕ) → Option EscapeWord
escape_of None = Some word.Name
escape_of (Some text) = escape_named text
