-- What each step of the pass over marked places keeps, and where it refuses.
use Rattle.std.specs.Prelude.{◌≡◌, ℕ, suc, ◌<◌, ◌≤◌, ◌⊎◌, Bool, true, false, List, [], ◌∷◌, length, Option, None, Some, slice_get}
use Rattle.template_compiler_code.specs.Code.{Code}
use Rattle.template_compiler_code_shapes.specs.declared.StreamKind.{StreamKind}
use Rattle.template_compiler_code_shapes.specs.Shapes.{Shape, start}
use Rattle.template_compiler_code_shapes.specs.Effects.{Effect, effect_of}
use Rattle.template_compiler_code_shapes.specs.Streams.{Reached, end_of, IsGood}
use Rattle.template_compiler_code_shapes.specs.Passes.{Marks, Works, Noted, Sees, IsBad, Noticed}

module _ (code : List Code) (mark : ℕ → Bool) where
  -- the first place waits, with where a run begins
  abbrev pub Begins : Type 0
  Begins = (notes : ℕ → Option Shape) (seen : ℕ → Bool) (place : ℕ) → Marks code mark → notes 0 ≡ Some start → ((q : ℕ) (s : Shape) → notes q ≡ Some s → (q ≡ 0) × (s ≡ start))
      → ((q : ℕ) → seen q ≡ false) → Works code mark notes seen (0 ∷ []) place None

  -- a place that waits is taken up, or dropped if it was visited or is the end
  abbrev pub TakesUp : Type 0
  TakesUp = (notes : ℕ → Option Shape) (seen : ℕ → Bool) (waiting : List ℕ) (place at : ℕ) (s : Shape) → Works code mark notes seen (at ∷ waiting) place None
      → notes at ≡ Some s → seen at ≡ false → at < length code → Works code mark notes seen waiting at (Some s)

  abbrev pub Drops : Type 0
  Drops = (notes : ℕ → Option Shape) (seen : ℕ → Bool) (waiting : List ℕ) (place at : ℕ) → Works code mark notes seen (at ∷ waiting) place None
      → (seen at ≡ true) ⊎ (length code ≤ at) ⊎ (notes at ≡ None) → Works code mark notes seen waiting place None

  -- a shape is noted where nothing was, and the place waits
  abbrev pub Notes : Type 0
  Notes = (notes later : ℕ → Option Shape) (seen : ℕ → Bool) (waiting : List ℕ) (place at : ℕ) (hand : Option Shape) (t : Shape) → Marks code mark → Works code mark notes seen waiting place hand
      → notes at ≡ None → mark at ≡ true → Reached code at t → Noted notes later at t → Works code mark later seen (at ∷ waiting) place hand

  -- the instruction in hand is visited: it falls nowhere or to a marked place, where its shape is noted; or the next is in hand
  abbrev pub Settles : Type 0
  Settles = (notes : ℕ → Option Shape) (seen later : ℕ → Bool) (waiting : List ℕ) (place next : ℕ) (s : Shape) (c : Code) (e : Effect) → Works code mark notes seen waiting place (Some s)
      → slice_get code place ≡ Some c → effect_of code place c s ≡ Some e → Noticed notes e → ((t : Shape) → e.falls ≡ Some t → notes (suc place) ≡ Some t)
      → Sees seen later place → Works code mark notes later waiting next None

  abbrev pub GoesOn : Type 0
  GoesOn = (notes : ℕ → Option Shape) (seen later : ℕ → Bool) (waiting : List ℕ) (place : ℕ) (s t : Shape) (c : Code) (e : Effect) → Marks code mark → Works code mark notes seen waiting place (Some s)
      → slice_get code place ≡ Some c → effect_of code place c s ≡ Some e → Noticed notes e → e.falls ≡ Some t → mark (suc place) ≡ false
      → Sees seen later place → Works code mark notes later waiting (suc place) (Some t)

  -- nothing waits: the stream is good where its end is
  abbrev pub Finishes : Type 0
  Finishes = (notes : ℕ → Option Shape) (seen : ℕ → Bool) (place : ℕ) (kind : StreamKind) → Marks code mark → Works code mark notes seen [] place None
      → ((s : Shape) → notes (length code) ≡ Some s → s ≡ end_of kind) → IsGood kind code

  -- refusals
  abbrev pub RefusesInstructions : Type 0
  RefusesInstructions = (notes : ℕ → Option Shape) (seen : ℕ → Bool) (waiting : List ℕ) (place : ℕ) (s : Shape) (c : Code) → Works code mark notes seen waiting place (Some s)
      → slice_get code place ≡ Some c → effect_of code place c s ≡ None → IsBad code

  abbrev pub RefusesClashes : Type 0
  RefusesClashes = (notes : ℕ → Option Shape) (seen : ℕ → Bool) (waiting : List ℕ) (place at : ℕ) (hand : Option Shape) (s t : Shape) → Works code mark notes seen waiting place hand
      → notes at ≡ Some s → Reached code at t → (s ≡ t → ⊥) → IsBad code

  abbrev pub RefusesEnds : Type 0
  RefusesEnds = (notes : ℕ → Option Shape) (seen : ℕ → Bool) (waiting : List ℕ) (place : ℕ) (hand : Option Shape) (s : Shape) (kind : StreamKind) → Works code mark notes seen waiting place hand
      → notes (length code) ≡ Some s → (s ≡ end_of kind → ⊥) → IsGood kind code → ⊥
