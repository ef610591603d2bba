-- Modules: the names that a template leaves, with what it wrote.
use Rattle.std.specs.Prelude.{ℕ, Bool, false, ◌==◌, List, [], ◌∷◌, unwrap_or, Result, if◌then◌else◌}
use Rattle.template_values_model.specs.Fault.{Fault}
use Rattle.template_values_model.specs.Val as values
use Rattle.template_values_model.specs.Val.{Val}
use Rattle.template_values_core.specs.Answers.{text_in}
use Rattle.template_values_core.specs.Maps.{collected}
use Rattle.template_compiler_walk.specs.Containers.{within_depth}

-- the name begins with `_`
abbrev pub is_private : List ℕ → Bool
is_private [] = false
is_private (c ∷ cs) = c == 95

-- the names of a frame with their values, but for those that are private
abbrev pub public_locals : List (List ℕ × Val) → List (Val × Val)
public_locals [] = []
public_locals (l ∷ ls) = if is_private l.0 then public_locals ls else (values.text l.0, l.1) ∷ public_locals ls

-- a text that was dropped is empty
abbrev pub module_of : List (List ℕ × Val) → Val → Result Val Fault
module_of locals written = within_depth (values.«module» (collected (public_locals locals)) (unwrap_or (text_in written) []))
