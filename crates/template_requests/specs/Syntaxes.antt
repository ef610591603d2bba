-- The syntax that a request sets.
use Rattle.std.specs.Prelude.{◌≡◌, ◌∷◌, ◌⊎◌, ℕ, List, [], Option, None, Some, option_map, unwrap_or}
use Rattle.std.specs.Borrow.{Bor}
use Rattle.template_values_errors.specs.declared.ErrorKind.{ErrorKind}
use Rattle.template_values_errors.specs.declared.ErrorKind.TheVariants.{InvalidDelimiter}
use Rattle.template_values_errors.specs.Memory.{NoMemory}
use Rattle.template_compiler_syntax.specs.Syntax.{IsUsable, Syntax, default_syntax}
use Rattle.template_requests.specs.declared.syntax.SyntaxParts.{SyntaxParts}

-- the text that is given, or else this one
abbrev pub text_or : Option (Bor (List ℕ)) → List ℕ → List ℕ
text_or given otherwise = unwrap_or (option_map (λ text. text.now) given) otherwise

-- what the parts say, and else what the default syntax says
abbrev pub syntax_with : SyntaxParts → Syntax
syntax_with parts = record {
  block_start = text_or parts.block_start default_syntax.block_start;
  block_end = text_or parts.block_end default_syntax.block_end;
  variable_start = text_or parts.variable_start default_syntax.variable_start;
  variable_end = text_or parts.variable_end default_syntax.variable_end;
  comment_start = text_or parts.comment_start default_syntax.comment_start;
  comment_end = text_or parts.comment_end default_syntax.comment_end;
  line_statement_prefix = text_or parts.line_statement_prefix [];
  line_comment_prefix = text_or parts.line_comment_prefix [];
  trim_blocks = parts.trim_blocks;
  lstrip_blocks = parts.lstrip_blocks;
  keep_trailing_newline = parts.keep_trailing_newline;
  scoped_blocks = parts.scoped_blocks;
}

-- the default one, where no parts are given
abbrev pub syntax_of : Option SyntaxParts → Syntax
syntax_of None = default_syntax
syntax_of (Some parts) = syntax_with parts

-- segments cannot be told apart in it, or memory is wanting
abbrev pub RefusesSyntax : Syntax → List ErrorKind → Type 0
RefusesSyntax syntax kinds = ((kinds ≡ InvalidDelimiter ∷ []) × ¬ IsUsable syntax) ⊎ NoMemory kinds
