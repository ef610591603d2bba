-- What contracts see of a parser.
use Rattle.std.specs.Prelude.{◌≡◌, ℕ, List, Option}
use Rattle.template_values_errors.specs.declared.ErrorKind.{ErrorKind}
use Rattle.template_compiler_syntax.specs.Syntax.{Syntax}
use Rattle.template_compiler_sources.specs.declared.parser.Parser.{Parser}

-- its source, the name of the file and the syntax, and the kind of the refusal that it answers from now on, if it does
abbrev pub source_of : Parser → List ℕ
source_of p = p.source.now

abbrev pub filename_of : Parser → List ℕ
filename_of p = p.filename.now

abbrev pub syntax_of : Parser → Syntax
syntax_of p = p.syntax

abbrev pub refused_of : Parser → Option ErrorKind
refused_of p = p.refused

-- all else is as it was
pub record IsSameText (old new : Parser) : Type 0 where
  pub source : source_of new ≡ source_of old
  pub filename : filename_of new ≡ filename_of old
  pub syntax : syntax_of new ≡ syntax_of old
