-- Captures: what is written in them, and what they end with.
use Rattle.std.specs.Prelude.{ℕ, Bool, true, false, List, [], ◌∷◌, ◌++◌}
use Rattle.template_values_errors.specs.declared.modes.AutoEscape.{AutoEscape}
use Rattle.template_values_errors.specs.declared.modes.AutoEscape.TheVariants as escapes
use Rattle.template_values_model.specs.Val as values
use Rattle.template_values_model.specs.Val.{Val}
use Rattle.template_machine_meaning.specs.World.{Capture, keeps, drops}

-- a capture takes a text behind what it holds, or drops it
abbrev pub with_text : List ℕ → Capture → Capture
with_text more (keeps text) = keeps (text ++ more)
with_text more drops = drops

-- a capture begins: of a text that is kept, or of one that is dropped
abbrev pub capture_begun : Bool → Capture
capture_begun true = keeps []
capture_begun false = drops

-- what a capture ends with: its text, which is safe under an escape; undefined where it was dropped
abbrev pub captured : AutoEscape → Capture → Val
captured escapes.None (keeps text) = values.text text
captured rule (keeps text) = values.safe_text text
captured rule drops = values.undefined

-- the innermost one; where none is open, one that has nothing
abbrev pub innermost : List Capture → Capture
innermost [] = drops
innermost (c ∷ captures) = c

abbrev pub around_innermost : List Capture → List Capture
around_innermost [] = []
around_innermost (c ∷ captures) = captures

-- what is written is dropped
abbrev pub is_dropping : List Capture → Bool
is_dropping [] = false
is_dropping (keeps text ∷ captures) = false
is_dropping (drops ∷ captures) = true
