-- What requests are served with, as the words ask.
use Rattle.std.specs.Prelude.{◌≡◌, ℕ, List, [], Option, None, option_map, unwrap_or, false}
use Rattle.std.specs.Borrow.{Bor}
use Rattle.template_compiler_syntax.specs.Syntax.{Syntax, default_syntax}
use Rattle.template_machine_surroundings.specs.declared.escape.EscapeRule.{EscapeRule}
use Rattle.template_machine_surroundings.specs.declared.escape.EscapeRule.TheVariants.{ByName, Never, Fixed}
use Rattle.template_values_errors.specs.declared.modes.AutoEscape.TheVariants as fixed
use Rattle.template_program_words.specs.declared.escapes.EscapeWord.{EscapeWord}
use Rattle.template_program_words.specs.declared.escapes.EscapeWord.TheVariants as word
use Rattle.template_program_words.specs.declared.syntax.SyntaxWords.{SyntaxWords}
use Rattle.template_program_words.specs.declared.words.Words.{Words}
use Rattle.template_program_words.specs.declared.words.Words.TheVariants as asks
use Rattle.template_program_run.specs.Brought.{brought_if}
use Rattle.template_program_run.specs.Served.{Served, rule_under}

-- the text that is given, or else this one
abbrev pub text_or : Option (Bor (List ℕ)) → List ℕ → List ℕ
text_or given otherwise = unwrap_or (option_map (λ text. text.now) given) otherwise

-- the syntax that words set: what they say, and else what the default one says
abbrev pub syntax_set : SyntaxWords → Syntax
syntax_set words = record {
  block_start = text_or words.block_start default_syntax.block_start;
  block_end = text_or words.block_end default_syntax.block_end;
  variable_start = text_or words.variable_start default_syntax.variable_start;
  variable_end = text_or words.variable_end default_syntax.variable_end;
  comment_start = text_or words.comment_start default_syntax.comment_start;
  comment_end = text_or words.comment_end default_syntax.comment_end;
  line_statement_prefix = text_or words.line_statement [];
  line_comment_prefix = text_or words.line_comment [];
  trim_blocks = words.trim_blocks;
  lstrip_blocks = words.lstrip_blocks;
  keep_trailing_newline = words.keep_trailing_newline;
  scoped_blocks = words.scoped_blocks;
}

-- no delimiter and no prefix is set
pub record SetNoText (words : SyntaxWords) : Type 0 where
  pub block_start : words.block_start ≡ None
  pub block_end : words.block_end ≡ None
  pub variable_start : words.variable_start ≡ None
  pub variable_end : words.variable_end ≡ None
  pub comment_start : words.comment_start ≡ None
  pub comment_end : words.comment_end ≡ None
  pub line_statement : words.line_statement ≡ None
  pub line_comment : words.line_comment ≡ None

-- the words that set it
abbrev pub syntax_words : Words → SyntaxWords
syntax_words (asks.Render read) = read.syntax
syntax_words (asks.Names read) = read.syntax
syntax_words (asks.Check read) = read.syntax

-- the path of the file that is written in place of the output, if the words name one
abbrev pub output_word : Words → Option (List ℕ)
output_word (asks.Render read) = option_map (λ path. path.now) read.output
output_word (asks.Names read) = option_map (λ path. path.now) read.output
output_word (asks.Check read) = None

-- the rule of escapes that the word names
abbrev pub rule_named : EscapeWord → EscapeRule
rule_named word.None = Never
rule_named word.Html = Fixed fixed.Html
rule_named word.Json = Fixed fixed.Json
rule_named word.Name = ByName

abbrev pub served_by : Words → Served
served_by (asks.Render read) = record {
  brought = brought_if read.builtins;
  syntax = syntax_set read.syntax;
  escapes = rule_under (rule_named read.autoescape);
  names_as_json = false;
  tells_where = read.tells_where;
}
served_by (asks.Names read) = record {
  brought = brought_if read.builtins;
  syntax = syntax_set read.syntax;
  escapes = ByName;
  names_as_json = read.json;
  tells_where = read.tells_where;
}
served_by (asks.Check read) = record {
  brought = brought_if read.builtins;
  syntax = syntax_set read.syntax;
  escapes = ByName;
  names_as_json = false;
  tells_where = false;
}
