-- The syntax of templates: what their segments begin and end with, and which white space beside them goes.
use Rattle.std.specs.Prelude.{◌≡◌, ℕ, Bool, false, List, [], codes}
use Rattle.template_compiler_syntax.specs.declared.StartMarker.{StartMarker}
use Rattle.template_compiler_syntax.specs.declared.StartMarker.TheVariants.{Variable, Block, Comment, LineStatement, LineComment}

pub record Syntax : Type 0 where
  pub block_start : List ℕ
  pub block_end : List ℕ
  pub variable_start : List ℕ
  pub variable_end : List ℕ
  pub comment_start : List ℕ
  pub comment_end : List ℕ
  pub line_statement_prefix : List ℕ  -- empty: no line is a statement
  pub line_comment_prefix : List ℕ  -- empty: no line is a comment
  pub trim_blocks : Bool
  pub lstrip_blocks : Bool
  pub keep_trailing_newline : Bool
  pub scoped_blocks : Bool  -- the word `scoped` may stand behind the name of a block

abbrev pub default_syntax : Syntax
default_syntax = record {
  block_start = codes "{%";
  block_end = codes "%}";
  variable_start = codes "{{";
  variable_end = codes "}}";
  comment_start = codes "{#";
  comment_end = codes "#}";
  line_statement_prefix = [];
  line_comment_prefix = [];
  trim_blocks = false;
  lstrip_blocks = false;
  keep_trailing_newline = false;
  scoped_blocks = false;
}

-- what a segment of the kind begins with; an empty prefix is none
abbrev pub start_text : Syntax → StartMarker → List ℕ
start_text x Variable = x.variable_start
start_text x Block = x.block_start
start_text x Comment = x.comment_start
start_text x LineStatement = x.line_statement_prefix
start_text x LineComment = x.line_comment_prefix

-- what it ends with, where that is a delimiter
abbrev pub end_text : Syntax → StartMarker → List ℕ
end_text x Variable = x.variable_end
end_text x Block = x.block_end
end_text x Comment = x.comment_end
end_text x LineStatement = []
end_text x LineComment = []

abbrev pub IsSet : List ℕ → Type 0
IsSet text = text ≡ [] → ⊥

-- no delimiter is empty
pub record IsFilled (x : Syntax) : Type 0 where
  pub variable_start : IsSet (x.variable_start)
  pub block_start : IsSet (x.block_start)
  pub comment_start : IsSet (x.comment_start)
  pub variable_end : IsSet (x.variable_end)
  pub block_end : IsSet (x.block_end)
  pub comment_end : IsSet (x.comment_end)

-- no two of the starts that are there are equal
abbrev pub IsApart : Syntax → Type 0
IsApart x = (k l : StartMarker) → IsSet (start_text x k) → start_text x k ≡ start_text x l → k ≡ l

-- segments can be told apart
pub record IsUsable (x : Syntax) : Type 0 where
  pub filled : IsFilled x
  pub apart : IsApart x

-- the starts are those of the default syntax, and there are no prefixes
pub record HasDefaultStarts (x : Syntax) : Type 0 where
  pub variable_start : x.variable_start ≡ codes "{{"
  pub block_start : x.block_start ≡ codes "{%"
  pub comment_start : x.comment_start ≡ codes "{#"
  pub line_statement_prefix : x.line_statement_prefix ≡ []
  pub line_comment_prefix : x.line_comment_prefix ≡ []
