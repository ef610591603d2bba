-- Texts of white space alone.
use Rattle.std.specs.Prelude.{Bool, false}
use Rattle.template_compiler_tree.specs.Tree.{Statement, raw}
use Rattle.template_compiler_grammar.specs.TemplateTrees.{is_blank_text}

abbrev pub is_blank_statement : Statement → Bool
is_blank_statement (raw text) = is_blank_text text
is_blank_statement _ = false
