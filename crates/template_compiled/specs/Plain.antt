-- Sources that are text alone.
use Rattle.std.specs.Prelude.{◌≡◌, ℕ, List, [], ◌∷◌}
use Rattle.template_values_errors.specs.declared.ErrorKind.{ErrorKind}
use Rattle.template_compiler_tree.specs.Tree.{Statements, raw, no_statements, statements_more}
use Rattle.template_compiler_syntax.specs.Syntax.{IsUsable}
use Rattle.template_compiler_syntax.specs.Flat.{template_text}
use Rattle.template_compiler_syntax.specs.Segments.{HasNoStart}
use Rattle.template_compiled.specs.Sources.{Source, HasNoRoom, HasTree, IsRefusedWith, tree_in}

-- the text of a source, without the newline at its end where the syntax does not keep it
abbrev pub text_kept : Source → List ℕ
text_kept source = template_text source.syntax source.text

-- no marker starts in it
abbrev pub IsPlain : Source → Type 0
IsPlain source = HasNoStart source.syntax (text_kept source) 0

-- the tree of a text
abbrev pub text_tree : List ℕ → Statements
text_tree [] = no_statements
text_tree (byte ∷ bytes) = statements_more (raw (byte ∷ bytes)) no_statements

-- what such a source stands for: its tree is its text, and it is refused for want of memory alone, or for its size, where it
-- has 2^32 bytes at least
pub record StandsForItself (source : Source) : Type 0 where
  pub has_tree : HasTree source (text_tree (text_kept source))
  pub tree : tree_in source ≡ text_tree (text_kept source)
  pub refused : (kinds : List ErrorKind) → IsRefusedWith source kinds → HasNoRoom source.text kinds

-- A source in which no marker starts stands for itself.
abbrev pub PlainStandsForItself : Type 0
PlainStandsForItself = (source : Source) → IsUsable source.syntax → IsPlain source → StandsForItself source
