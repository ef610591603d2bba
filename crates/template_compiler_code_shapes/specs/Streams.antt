-- Which streams are good, and the table of shapes that shows one to be good.
use Rattle.std.specs.Prelude.{◌≡◌, ℕ, suc, List, length, Option, Some, IsSome, IsSomeAnd, slice_get}
use Rattle.template_compiler_code.specs.Code.{Code}
use Rattle.template_compiler_code_shapes.specs.declared.StreamKind.{StreamKind}
use Rattle.template_compiler_code_shapes.specs.declared.StreamKind.TheVariants.{Template, Expression}
use Rattle.template_compiler_code_shapes.specs.Shapes.{Shape, start, given}
use Rattle.template_compiler_code_shapes.specs.Effects.{Effect, effect_of}

-- The code is reached at a place with a shape: from the start, and in the bodies of the macros that are made.
pub data Reached (code : List Code) : ℕ → Shape → Type 0 where
  begins : Reached code 0 start
  falls_to : {place : ℕ} {s t : Shape} {c : Code} {e : Effect} → Reached code place s → slice_get code place ≡ Some c
      → effect_of code place c s ≡ Some e → e.falls ≡ Some t → Reached code (suc place) t
  jumps_to : {place : ℕ} {to : ℕ} {s t : Shape} {c : Code} {e : Effect} → Reached code place s → slice_get code place ≡ Some c
      → effect_of code place c s ≡ Some e → e.jumps ≡ Some (to, t) → Reached code to t
  enters_at : {place : ℕ} {to : ℕ} {s t : Shape} {c : Code} {e : Effect} → Reached code place s → slice_get code place ≡ Some c
      → effect_of code place c s ≡ Some e → e.enters ≡ Some (to, t) → Reached code to t

-- the shape at the end: a template leaves nothing, an expression its value
abbrev pub end_of : StreamKind → Shape
end_of Template = start
end_of Expression = given 1 start

-- Each place has one shape however it is reached, each reached instruction is admissible, and at the end nothing is
-- left but what the kind of stream leaves.
pub record IsGood (kind : StreamKind) (code : List Code) : Type 0 where
  pub one : (place : ℕ) (s t : Shape) → Reached code place s → Reached code place t → s ≡ t
  pub fine : (place : ℕ) (s : Shape) (c : Code) → Reached code place s → slice_get code place ≡ Some c → IsSome (effect_of code place c s)
  pub over : (s : Shape) → Reached code (length code) s → s ≡ end_of kind

-- a table has the shapes of an effect where it leads
pub record Leads (table : ℕ → Option Shape) (place : ℕ) (e : Effect) : Type 0 where
  pub falls : (t : Shape) → e.falls ≡ Some t → table (suc place) ≡ Some t
  pub jumps : (to : ℕ) (t : Shape) → ◌≡◌ {A = Option (ℕ × Shape)} e.jumps (Some (to, t)) → table to ≡ Some t
  pub enters : (to : ℕ) (t : Shape) → ◌≡◌ {A = Option (ℕ × Shape)} e.enters (Some (to, t)) → table to ≡ Some t

-- A table of shapes shows that a stream is good: the start stands in it, each instruction with a shape in it is
-- admissible and leads to shapes in it, and at the end it has what the kind of stream leaves.
pub record IsCertificate (kind : StreamKind) (code : List Code) (table : ℕ → Option Shape) : Type 0 where
  pub begins : table 0 ≡ Some start
  pub fine : (place : ℕ) (s : Shape) (c : Code) → table place ≡ Some s → slice_get code place ≡ Some c
      → IsSomeAnd (effect_of code place c s) (Leads table place)
  pub over : (s : Shape) → table (length code) ≡ Some s → s ≡ end_of kind
