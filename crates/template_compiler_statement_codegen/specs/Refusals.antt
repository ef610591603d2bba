-- Why no more is put, as a kind alone.
use Rattle.std.specs.Prelude.{List, ◌∷◌, []}
use Rattle.template_values_errors.specs.declared.ErrorKind.{ErrorKind}
use Rattle.template_compiler_code.specs.Code.{Code}
use Rattle.template_compiler_code.specs.Listing.{TakesNoMore}

abbrev pub Refuses : List Code → ErrorKind → Type 0
Refuses code kind = TakesNoMore code (kind ∷ [])
