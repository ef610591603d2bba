-- What contracts see of a compiled template.
use Rattle.std.specs.Prelude.{ℕ, ◌<◌, ◌^◌, List, length}
use Rattle.template_values_errors.specs.declared.modes.AutoEscape.{AutoEscape}
use Rattle.template_compiler_code.specs.Code.{Code}
use Rattle.template_compiler_codegen.specs.Statements.{template_code}
use Rattle.template_compiler_generator.specs.Numbers.{numbered_in}
use Rattle.template_compiler_syntax.specs.Syntax.{IsUsable}
use Rattle.template_machine_surroundings.specs.Rule.{IsEscapeOf}
use Rattle.template_machine_meaning.specs.Meaning.{Standing}
use Rattle.template_compiled.specs.Sources.{Source, HasTree, tree_in, escaping_as}

pub record Compiled : Type 0 where
  pub name : List ℕ
  pub source : Source
  pub escape : AutoEscape

-- its source has a tree, and its escape is that of its name under the rule
pub record IsFaithful (c : Compiled) : Type 0 where
  pub usable : IsUsable c.source.syntax
  pub fits : length c.source.text < 2 ^ 32
  pub has_tree : HasTree c.source (tree_in c.source)
  pub is_escape : IsEscapeOf c.source.escapes c.name c.escape

-- the same under an escape, whatever its name is
abbrev pub escaped_as : AutoEscape → Compiled → Compiled
escaped_as escape c = record { name = c.name; source = escaping_as escape c.source; escape = escape }

-- what it stands for
abbrev pub standing_of : Compiled → Standing
standing_of c = record { name = c.name; tree = tree_in c.source; escape = c.escape }

-- the code of its tree, whose filters and tests have their numbers
abbrev pub code_for : Compiled → List Code
code_for c = numbered_in (template_code (tree_in c.source))
