-- Sources of templates, and what they stand for.
use Rattle.std.specs.Prelude.{◌≡◌, ℕ, ◌^◌, ◌≤◌, ◌⊎◌, List, [], ◌∷◌, length, Result, Ok, Err}
use Rattle.template_values_errors.specs.declared.ErrorKind.{ErrorKind}
use Rattle.template_values_errors.specs.declared.ErrorKind.TheVariants.{TooLarge, OutOfMemory}
use Rattle.template_values_errors.specs.declared.modes.AutoEscape.{AutoEscape}
use Rattle.template_compiler_tree.specs.Tree.{Statements, no_statements, template}
use Rattle.template_compiler_walk.specs.Runnable.{IsRunnableTemplate}
use Rattle.template_compiler_tokens.specs.Token.{Token, TokenFault}
use Rattle.template_compiler_syntax.specs.Syntax.{Syntax}
use Rattle.template_compiler_syntax.proofs.Theorems.{some_tokens}
use Rattle.template_compiler_sources.specs.Scoped.{taken_words}
use Rattle.template_compiler_grammar.specs.TreeReader.{template_of}
use Rattle.template_compiler_sources.specs.Source.{IsSource, RefusesSource}
use Rattle.template_machine_surroundings.specs.declared.escape.EscapeRule.{EscapeRule}
use Rattle.template_machine_surroundings.specs.declared.escape.EscapeRule.TheVariants.{Fixed}
use Rattle.template_compiled.specs.declared.config.TemplateConfig.{TemplateConfig}

-- a text, the syntax that it is read under, and the rule that gives the escape
pub record Source : Type 0 where
  pub text : List ℕ
  pub syntax : Syntax
  pub escapes : EscapeRule

-- a text, as it is read under a configuration
abbrev pub read_by : TemplateConfig → List ℕ → Source
read_by config text = record { text = text; syntax = config.syntax_config; escapes = config.default_auto_escape }

-- the same under an escape, whatever the name is
abbrev pub escaping_as : AutoEscape → Source → Source
escaping_as escape source = record source { escapes = Fixed escape }

-- the source's tree is made of these statements
abbrev pub HasTree : Source → Statements → Type 0
HasTree source tree = IsSource source.syntax source.text (template tree)

abbrev pub IsAccepted : Source → Type 0
IsAccepted source = (tree : Statements) × HasTree source tree

-- what was read, and nothing where that is none
abbrev pub read : Result Statements TokenFault → Statements
read (Ok tree) = tree
read (Err fault) = no_statements

-- what is read of a source's tokens
abbrev pub tokens_read : Source → List Token
tokens_read source = taken_words source.syntax.scoped_blocks (some_tokens source.syntax source.text).0

-- the tree of a source, whose tokens are read from the first to the last; nothing where it has none
unfoldable pub tree_in : Source → Statements
tree_in source = read (template_of (tokens_read source))

-- there is no room for a text or for its code: the text is too large, which one of fewer than 2^32 bytes never is; or a growth
-- was refused, as that of code is which has 2^32 instructions
abbrev pub HasNoRoom : List ℕ → List ErrorKind → Type 0
HasNoRoom text kinds = ((kinds ≡ TooLarge ∷ []) × (2 ^ 32 ≤ length text)) ⊎ (kinds ≡ OutOfMemory ∷ [])

-- why a source is refused: it has no tree or is too large, or there is no room for its code
abbrev pub IsRefusedWith : Source → List ErrorKind → Type 0
IsRefusedWith source kinds = RefusesSource source.syntax source.text kinds ⊎ HasNoRoom source.text kinds

-- Every tree that a source is read to has a walk.
abbrev pub TreesRun : Type 0
TreesRun = (source : Source) → IsRunnableTemplate (tree_in source)
