-- What is put behind instructions.
use Rattle.std.specs.Prelude.{◌≡◌, ◌⊎◌, List, [], ◌∷◌, ◌++◌, length, Option, None, Some}
use Rattle.template_values_errors.specs.declared.ErrorKind.{ErrorKind}
use Rattle.template_values_errors.specs.declared.ErrorKind.TheVariants.{TooLarge, OutOfMemory}
use Rattle.template_values_model.specs.Val.{Val}
use Rattle.template_compiler_code.specs.declared.marks.Mark.{Mark}
use Rattle.template_compiler_code.specs.Code.{load_const}
use Rattle.template_compiler_code.specs.Listing.{name_in, source_in, code_in, places_in}
use Rattle.template_compiler_code.specs.declared.listing.Instructions.{Instructions}
use Rattle.template_compiler_codegen.specs.Expressions.{Coded, nothing, one, then_code}

-- the name and the source stay, and so does where instructions come from: marks come behind the others alone
pub record Keeps (old new : Instructions) : Type 0 where
  pub name : name_in new ≡ name_in old
  pub source : source_in new ≡ source_in old
  pub later : List Mark
  pub places : places_in new ≡ places_in old ++ later

-- a piece of code stands behind the instructions, from the place where they ended
pub record Puts (piece : Coded) (old new : Instructions) : Type 0 where
  pub code : code_in new ≡ code_in old ++ piece (length (code_in old))
  pub same : Keeps old new

-- there would be too many instructions, or a growth was refused
abbrev pub NoRoom : List ErrorKind → Type 0
NoRoom kinds = (kinds ≡ TooLarge ∷ []) ⊎ (kinds ≡ OutOfMemory ∷ [])

-- a constant is held back
abbrev pub unless : Option Val → Coded → Coded
unless (Some v) code = nothing
unless None code = code

-- the load of a constant that was held back
abbrev pub held : Option Val → Coded
held (Some v) = one (load_const v)
held None = nothing

-- code behind a left part, which is loaded first where it was held back
abbrev pub behind : Option Val → Coded → Coded
behind (Some v) code = then_code (one (load_const v)) code
behind None code = code
