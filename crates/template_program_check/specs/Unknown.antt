-- The lines of the names that nothing has.
use Rattle.std.specs.Prelude.{◌≡◌, ℕ, Bool, true, false, List, [], ◌∷◌, ◌++◌, Option, None, Some}
use Rattle.template_compiler_code.specs.Code.{Code}
use Rattle.template_compiler_code.specs.Streams.{BlockStream}
use Rattle.template_compiled.specs.Compiled.{Compiled, code_for}
use Rattle.template_compiled.specs.Sources.{tree_in}
use Rattle.template_compiled.specs.Streams.{streams_of}
use Rattle.template_program_check.specs.Lines.{IsNameLine}
use Rattle.template_program_check.specs.Names.{Reference, is_had, is_stored_in, kind_for, name_in, named_by}

-- a line where nothing has the name
abbrev pub TellsUnless : Bool → Reference → List ℕ → List ℕ → Type 0
TellsUnless true named lines after = after ≡ lines
TellsUnless false named lines after = (line : List ℕ) × IsNameLine (kind_for named) (name_in named) line × (after ≡ lines ++ line)

abbrev pub TellsNamed : (List ℕ → Bool) → Reference → List ℕ → List ℕ → Type 0
TellsNamed stored named lines after = TellsUnless (is_had stored named) named lines after

-- of an instruction
abbrev pub TellsIf : (List ℕ → Bool) → Option Reference → List ℕ → List ℕ → Type 0
TellsIf stored None lines after = after ≡ lines
TellsIf stored (Some named) lines after = TellsNamed stored named lines after

abbrev pub TellsAt : (List ℕ → Bool) → Code → List ℕ → List ℕ → Type 0
TellsAt stored c lines after = TellsIf stored (named_by c) lines after

abbrev pub TellsIfThere : (List ℕ → Bool) → Option Code → List ℕ → List ℕ → Type 0
TellsIfThere stored None lines after = after ≡ lines
TellsIfThere stored (Some c) lines after = TellsAt stored c lines after

-- one after the other
abbrev pub TellsCode : (List ℕ → Bool) → List Code → List ℕ → List ℕ → Type 0
TellsCode stored [] lines after = after ≡ lines
TellsCode stored (c ∷ code) lines after = (told : List ℕ) × TellsAt stored c lines told × TellsCode stored code told after

abbrev pub TellsBlocks : (List ℕ → Bool) → List BlockStream → List ℕ → List ℕ → Type 0
TellsBlocks stored [] lines after = after ≡ lines
TellsBlocks stored (block ∷ blocks) lines after =
    (told : List ℕ) × TellsCode stored block.code lines told × TellsBlocks stored blocks told after

-- a template: what stands outside of its blocks, and then each of them
abbrev pub TellsTemplate : (List ℕ → Bool) → Compiled → List ℕ → List ℕ → Type 0
TellsTemplate stored c lines after = (told : List ℕ) × TellsCode stored (code_for c) lines told
    × TellsBlocks stored (streams_of (tree_in c.source)) told after

abbrev pub TellsAll : (List ℕ → Bool) → List Compiled → List ℕ → List ℕ → Type 0
TellsAll stored [] lines after = after ≡ lines
TellsAll stored (c ∷ templates) lines after =
    (told : List ℕ) × TellsTemplate stored c lines told × TellsAll stored templates told after

-- a line for each name in the templates that nothing has, where what any of them stores counts
abbrev pub TellsUnknown : List Compiled → List ℕ → Type 0
TellsUnknown templates lines = TellsAll (is_stored_in templates) templates [] lines
