-- Streams of instructions as programs: the code of each runs from its start, from where a macro's body begins, or from behind where a
-- loop is opened that is called again.
use Rattle.std.specs.Prelude.{◌≡◌, ℕ, ◌==◌, Bool, true, List, [], length, map, Option, None, Some, option_map, All, if◌then◌else◌}
use Rattle.std.specs.Option.{ForSome, option_and_then}
use Rattle.template_values_model.specs.Val.{Val}
use Rattle.template_compiler_process.specs.Process.{Process}
use Rattle.template_compiler_code.specs.Code.{Code, single}
use Rattle.template_compiler_code.specs.Counting.{MacroPlace, macro_at, rounds_at}
use Rattle.template_compiler_code.specs.Steps.{exec}
use Rattle.template_compiler_code_shapes.specs.declared.StreamKind.{StreamKind}
use Rattle.template_compiler_code_shapes.specs.declared.outline.Floor.{Floor}
use Rattle.template_compiler_code_shapes.specs.declared.outline.Opened.TheVariants.{Recursive as recursive_frame}
use Rattle.template_compiler_code_shapes.specs.Shapes as shapes
use Rattle.template_compiler_code_shapes.specs.Shapes.{Shape, opened}
use Rattle.template_compiler_code_shapes.specs.Streams.{Reached, IsGood}
use Rattle.template_machine_meaning.specs.Keys.{Stream, Part, whole, body_of, rounds_of, Around}
use Rattle.template_machine_meaning.specs.World.{Rounds, Loop, Macro, World}
use Rattle.template_machine_meaning.specs.Records.{all_loops}
use Rattle.template_machine_meaning.specs.Surroundings.{Programs}

-- The code of each stream that there is; and the streams that may be known, which there are, or have been.
pub record Codes : Type 0 where
  pub code : Stream → Option (List Code)
  pub known : Stream → Bool

-- the body of a macro, over one argument for each parameter, the last one on top
abbrev pub body_run : ℕ → List Val → List Code → MacroPlace → Option Process
body_run n vs code m = if m.count == length vs then Some (exec code n m.offset (map single vs)) else None

-- a part of a stream
abbrev pub part_run : ℕ → Part → List Code → Option Process
part_run n whole code = Some (exec code n 0 [])
part_run n (body_of number vs) code = option_and_then (body_run n vs code) (macro_at code number)
part_run n (rounds_of number) code = option_map (λ place. exec code n place []) (rounds_at code number)

-- what each key runs
abbrev pub programs_of : Codes → Around → Programs
programs_of codes around = record { process = λ n key. option_and_then (part_run n key.part) (codes.code key.stream); around = around }

-- a stream that is good as one of its kinds
pub record IsVerified (code : List Code) : Type 0 where
  pub kind : StreamKind
  pub good : IsGood kind code

-- the body of a macro of a known stream is reached where it begins, with a value for each of its parameters
abbrev pub IsBodyReached : Codes → Stream → ℕ → Type 0
IsBodyReached codes stream number =
    (codes.known stream ≡ true)
    × ((code : List Code) → codes.code stream ≡ Some code → (m : MacroPlace) → macro_at code number ≡ Some m
    → Reached code m.offset (shapes.body_of m.count))

-- the shape in which the rounds of a loop begin that is opened at a place, over what the loop finds
abbrev pub floor_at : Shape → Floor
floor_at below = record { operands = length below.operands; escapes = below.escapes; captures = below.captures }

abbrev pub in_rounds : ℕ → Shape → Shape
in_rounds push below = opened (recursive_frame push (floor_at below)) below

-- the rounds of a loop of a known stream are reached where they begin
abbrev pub AreRoundsReached : Codes → Stream → ℕ → Type 0
AreRoundsReached codes stream number =
    (codes.known stream ≡ true)
    × ((code : List Code) → codes.code stream ≡ Some code → (place : ℕ) → rounds_at code number ≡ Some place
    → (push : ℕ) × (below : Shape) × Reached code place (in_rounds push below))

abbrev pub IsLoopReached : Codes → Option Loop → Type 0
IsLoopReached codes None = Unit {0}
IsLoopReached codes (Some l) = ForSome l.rounds (λ (r : Rounds). AreRoundsReached codes r.stream r.number)

-- what a run finds that was made before it is reached: the macros, and the loops that may be called again
pub record IsSound (codes : Codes) (w : World) : Type 0 where
  pub macros : All (λ (m : Macro). IsBodyReached codes m.stream m.number) w.macros
  pub loops : All (IsLoopReached codes) (all_loops w)

-- so is what runs itself
abbrev pub IsPartReached : Codes → Stream → Part → Type 0
IsPartReached codes stream whole = Unit {0}
IsPartReached codes stream (body_of number vs) = IsBodyReached codes stream number
IsPartReached codes stream (rounds_of number) = AreRoundsReached codes stream number
