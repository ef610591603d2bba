-- What a check of templates finds, which are given as names with their sources; each text is read as a source.
use Rattle.std.specs.Prelude.{◌≡◌, ℕ, ◌⊎◌, List, [], ◌∷◌, ◌++◌}
use Rattle.template_values_errors.specs.Memory.{NoMemory}
use Rattle.template_values_errors.specs.declared.ErrorKind.{ErrorKind}
use Rattle.template_compiled.specs.Compiled.{Compiled, IsFaithful}
use Rattle.template_compiled.specs.Sources.{IsRefusedWith, Source}
use Rattle.template_program_check.specs.Lines.{IsRefusalLine}

-- what a source is compiled to
pub record IsCompiledFrom (name : List ℕ) (source : Source) (c : Compiled) : Type 0 where
  pub named : c.name ≡ name
  pub read : c.source ≡ source
  pub faithful : IsFaithful c

-- a source is accepted, and compiled
abbrev pub Accepts : List ℕ → Source → List Compiled → List Compiled → Type 0
Accepts name source accepted after = (c : Compiled) × IsCompiledFrom name source c × (after ≡ accepted ++ c ∷ [])

-- or it is refused, not for want of memory, and a line tells that
abbrev pub Refuses : Source → List ℕ → List ℕ → Type 0
Refuses source lines after = (kinds : List ErrorKind) × IsRefusedWith source kinds × ¬ NoMemory kinds
    × ((line : List ℕ) × IsRefusalLine kinds line × (after ≡ lines ++ line))

abbrev pub ChecksOne : List ℕ → Source → List ℕ → List Compiled → List ℕ → List Compiled → Type 0
ChecksOne name source lines accepted lines_after accepted_after =
    (Accepts name source accepted accepted_after × (lines_after ≡ lines))
    ⊎ (Refuses source lines lines_after × (accepted_after ≡ accepted))

-- one after the other
abbrev pub ChecksFrom : (List ℕ → Source) → List (List ℕ × List ℕ) → List ℕ → List Compiled → List ℕ → List Compiled → Type 0
ChecksFrom read [] lines accepted lines_after accepted_after = (lines_after ≡ lines) × (accepted_after ≡ accepted)
ChecksFrom read (template ∷ later) lines accepted lines_after accepted_after =
    (told : List ℕ) × ((compiled : List Compiled) × ChecksOne template.0 (read template.1) lines accepted told compiled
    × ChecksFrom read later told compiled lines_after accepted_after)

-- a line for each that is refused, in order, and the others compiled
abbrev pub Checks : (List ℕ → Source) → List (List ℕ × List ℕ) → List ℕ → List Compiled → Type 0
Checks read templates lines accepted = ChecksFrom read templates [] [] lines accepted
