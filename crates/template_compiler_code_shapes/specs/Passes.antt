-- What a pass over marked places knows: a table of shapes, what is noted of it, which places were visited, which wait, and
-- the shape in hand.
use Rattle.std.specs.Prelude.{◌≡◌, ℕ, suc, ◌<◌, ◌≤◌, ◌⊎◌, Bool, true, false, List, [], ◌∷◌, length, Option, None, Some, IsSome, IsSomeAnd, slice_get}
use Rattle.template_compiler_code.specs.Code.{Code}
use Rattle.template_compiler_code_shapes.specs.declared.StreamKind.{StreamKind}
use Rattle.template_compiler_code_shapes.specs.Shapes.{Shape, start}
use Rattle.template_compiler_code_shapes.specs.Effects.{Effect, effect_of, aim_of}
use Rattle.template_compiler_code_shapes.specs.Streams.{Reached, IsGood, Leads}

-- the places that are marked: the first, the end, and each to which an instruction may lead but the one before it
pub record Marks (code : List Code) (mark : ℕ → Bool) : Type 0 where
  pub first : mark 0 ≡ true
  pub last : mark (length code) ≡ true
  pub aims : (place to : ℕ) (c : Code) → slice_get code place ≡ Some c → aim_of c ≡ Some to → to ≤ length code → mark to ≡ true

abbrev pub IsIn : ℕ → List ℕ → Type 0
IsIn q [] = ⊥
IsIn q (p ∷ ps) = (q ≡ p) ⊎ IsIn q ps

-- what is not visited yet: the shape in hand at its place, one at a marked place that waits, or one at the end
abbrev pub Waits : List Code → (ℕ → Bool) → List ℕ → ℕ → Option Shape → ℕ → Shape → Type 0
Waits code mark waiting place hand q s = ((q ≡ place) × (hand ≡ Some s)) ⊎ ((mark q ≡ true) × (IsIn q waiting ⊎ (q ≡ length code)))

-- the place in hand was not visited; it is marked, or the one before it was visited
pub record InHand (code : List Code) (mark seen : ℕ → Bool) (place : ℕ) : Type 0 where
  pub fresh : seen place ≡ false
  pub inside : place < length code
  pub behind : (p : ℕ) → place ≡ suc p → mark place ≡ false → seen p ≡ true

-- Some table has shapes with which places are reached. Each visited instruction is admissible with its own, and leads to
-- shapes in the table; those at marked places are noted; and what is not visited waits.
pub record Works (code : List Code) (mark : ℕ → Bool) (notes : ℕ → Option Shape) (seen : ℕ → Bool) (waiting : List ℕ) (place : ℕ) (hand : Option Shape) : Type 0 where
  pub table : ℕ → Option Shape
  pub begins : table 0 ≡ Some start
  pub reached : (q : ℕ) (s : Shape) → table q ≡ Some s → Reached code q s
  pub fine : (q : ℕ) (s : Shape) (c : Code) → seen q ≡ true → table q ≡ Some s → slice_get code q ≡ Some c
      → IsSomeAnd (effect_of code q c s) (Leads table q)
  pub had : (q : ℕ) → seen q ≡ true → IsSome (table q)
  pub noted : (q : ℕ) (s : Shape) → notes q ≡ Some s → table q ≡ Some s
  pub marked : (q : ℕ) (s : Shape) → mark q ≡ true → table q ≡ Some s → notes q ≡ Some s
  pub here : (s : Shape) → hand ≡ Some s → (table place ≡ Some s) × InHand code mark seen place
  pub waits : (q : ℕ) (s : Shape) → table q ≡ Some s → (seen q ≡ true) ⊎ Waits code mark waiting place hand q s
  pub behind : (q : ℕ) → seen (suc q) ≡ true → mark (suc q) ≡ false → seen q ≡ true

-- nothing waits, and this shape, or none, is noted at the end
pub record PassEnds (code : List Code) (hand : Option Shape) : Type 0 where
  pub mark : ℕ → Bool
  pub notes : ℕ → Option Shape
  pub seen : ℕ → Bool
  pub place : ℕ
  pub marks : Marks code mark
  pub works : Works code mark notes seen [] place None
  pub end : notes (length code) ≡ hand

-- the stream is good of neither kind
abbrev pub IsBad : List Code → Type 0
IsBad code = (kind : StreamKind) → IsGood kind code → ⊥

-- the shape was noted at the place, where nothing or the same was noted; all else stays
pub record Noted (notes later : ℕ → Option Shape) (at : ℕ) (t : Shape) : Type 0 where
  pub has : later at ≡ Some t
  pub keeps : (q : ℕ) (s : Shape) → notes q ≡ Some s → later q ≡ Some s
  pub only : (q : ℕ) (s : Shape) → later q ≡ Some s → (notes q ≡ Some s) ⊎ ((q ≡ at) × (s ≡ t))

-- a place more was visited
pub record Sees (seen later : ℕ → Bool) (at : ℕ) : Type 0 where
  pub has : later at ≡ true
  pub keeps : (q : ℕ) → seen q ≡ true → later q ≡ true
  pub only : (q : ℕ) → later q ≡ true → (seen q ≡ true) ⊎ (q ≡ at)

-- all of an effect but what falls to the next place is noted
pub record Noticed (notes : ℕ → Option Shape) (e : Effect) : Type 0 where
  pub jumps : (to : ℕ) (t : Shape) → ◌≡◌ {A = Option (ℕ × Shape)} e.jumps (Some (to, t)) → notes to ≡ Some t
  pub enters : (to : ℕ) (t : Shape) → ◌≡◌ {A = Option (ℕ × Shape)} e.enters (Some (to, t)) → notes to ≡ Some t

-- an instruction in hand, with its effect
pub record Visits (code : List Code) (mark : ℕ → Bool) (notes : ℕ → Option Shape) (seen : ℕ → Bool) (waiting : List ℕ) (place : ℕ) (e : Effect) : Type 0 where
  pub shape : Shape
  pub instruction : Code
  pub works : Works code mark notes seen waiting place (Some shape)
  pub at : slice_get code place ≡ Some instruction
  pub is : effect_of code place instruction shape ≡ Some e

-- what it jumps to and enters is noted; what is left is where it falls
pub record Ready (code : List Code) (mark : ℕ → Bool) (notes : ℕ → Option Shape) (seen : ℕ → Bool) (waiting : List ℕ) (place : ℕ) (falls : Option Shape) : Type 0 where
  pub effect : Effect
  pub visits : Visits code mark notes seen waiting place effect
  pub noticed : Noticed notes effect
  pub same : effect.falls ≡ falls
