-- What contracts see of notes, and of places that wait.
use Rattle.std.specs.Prelude.{◌≡◌, ℕ, suc, ◌+◌, ◌*◌, ◌⊎◌, Bool, false, List, [], ◌∷◌, length, reverse, Option, None, Some, option_map, option_and_then, unwrap_or, slice_get}
use Rattle.template_compiler_code_shapes.specs.Shapes.{Shape}
use Rattle.template_compiler_code_shapes.specs.Passes.{Noted}
use Rattle.template_compiler_code_shapes.specs.Outlines.{shape_of}
use Rattle.template_compiler_code_shapes.specs.declared.outline.Outline.{Outline}
use Rattle.template_compiler_code_shapes.specs.declared.desk.Desk.{Desk}

-- the shape in a slot of those for places
abbrev pub slot_in : List (Option Outline) → ℕ → Option Shape
slot_in slots place = option_and_then (option_map shape_of) (slice_get slots place)

-- the shape that is noted at a place
abbrev pub noted_in : Desk → ℕ → Option Shape
noted_in desk = slot_in desk.slots.items

-- the places that wait, the next one first
abbrev pub waiting_in : Desk → List ℕ
waiting_in desk = reverse desk.waiting.items

-- for how many places there is room
abbrev pub room_in : Desk → ℕ
room_in desk = length desk.slots.items

abbrev pub flag_in : List Bool → ℕ → Bool
flag_in flags place = unwrap_or (slice_get flags place) false

abbrev pub blanks_in : List (Option Outline) → ℕ
blanks_in [] = 0
blanks_in (None ∷ slots) = suc (blanks_in slots)
blanks_in (Some o ∷ slots) = blanks_in slots

-- what is left to do
abbrev pub weight_of : Desk → ℕ
weight_of desk = blanks_in desk.slots.items * 2 + length desk.waiting.items

-- a shape stands in the notes: it stood there, or it was noted now and its place waits
abbrev pub Stands : Desk → Desk → ℕ → Shape → Type 0
Stands old new at t = ((noted_in new ≡ noted_in old) × (waiting_in new ≡ waiting_in old) × (noted_in old at ≡ Some t))
    ⊎ ((noted_in old at ≡ None) × Noted (noted_in old) (noted_in new) at t × (waiting_in new ≡ at ∷ waiting_in old))

-- another shape stands there
abbrev pub Clashes : Desk → ℕ → Shape → Type 0
Clashes desk at t = (s : Shape) × (noted_in desk at ≡ Some s) × (s ≡ t → ⊥)

-- another shape stands where a way leads
abbrev pub ClashesAt : Desk → Option (ℕ × Shape) → Type 0
ClashesAt desk None = ⊥
ClashesAt desk (Some j) = Clashes desk j.0 j.1
