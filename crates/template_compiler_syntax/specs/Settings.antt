-- The syntax that settings stand for.
use Rattle.std.specs.Prelude.{Option, None, Some}
use Rattle.std.specs.Cow.{cow_str_bytes}
use Rattle.std.specs.declared.rc.Rc.{Rc}
use Rattle.template_compiler_syntax.specs.Syntax.{Syntax, default_syntax}
use Rattle.template_compiler_syntax.specs.declared.settings.Settings.{Settings}

abbrev pub syntax_of : Settings → Syntax
syntax_of s = record {
  block_start = cow_str_bytes s.blocks.start;
  block_end = cow_str_bytes s.blocks.end;
  variable_start = cow_str_bytes s.variables.start;
  variable_end = cow_str_bytes s.variables.end;
  comment_start = cow_str_bytes s.comments.start;
  comment_end = cow_str_bytes s.comments.end;
  line_statement_prefix = cow_str_bytes s.prefixes.line_statement;
  line_comment_prefix = cow_str_bytes s.prefixes.line_comment;
  trim_blocks = s.white_space.trim_blocks;
  lstrip_blocks = s.white_space.lstrip_blocks;
  keep_trailing_newline = s.white_space.keep_trailing_newline;
  scoped_blocks = s.scoped_blocks;
}

-- no settings stand for the default syntax
abbrev pub chosen_syntax : {Z : Type 0} → Option (Rc Settings Z) → Syntax
chosen_syntax None = default_syntax
chosen_syntax (Some shared) = syntax_of shared.value
