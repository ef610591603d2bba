-- The law of verified streams.
use Rattle.std.specs.Prelude.{◌≡◌, ℕ, true, List, [], length, Some, IsSome}
use Rattle.template_values_model.specs.Val.{Val}
use Rattle.template_compiler_process.specs.Approximants.{IsFinished}
use Rattle.template_compiler_process.specs.Drive.{End, ends, faults}
use Rattle.template_compiler_process.specs.Trace.{run}
use Rattle.template_compiler_code.specs.Code.{Code}
use Rattle.template_compiler_code.specs.Steps.{exec}
use Rattle.template_compiler_code_shapes.specs.Streams.{IsGood, end_of}
use Rattle.template_compiler_code_shapes.specs.declared.StreamKind.{StreamKind}
use Rattle.template_machine_meaning.specs.World.{Globals, World, first_world}
use Rattle.template_machine_meaning.specs.Keys.{rendered, standing, Stream, own, Key, whole_of, Head, Around}
use Rattle.template_machine_meaning.specs.Plans.{ran}
use Rattle.template_machine_meaning.specs.Blocks.{is_among}
use Rattle.template_machine_meaning.specs.Surroundings.{answer, runners}
use Rattle.template_machine_meaning.specs.Laws.{MayStart}
use Rattle.template_machine_codes.specs.Streams.{Codes, programs_of, IsVerified, IsSound, IsPartReached}

-- so many names are enough to list all templates that stand
abbrev pub ListsAll : Around → List (List ℕ) → Type 0
ListsAll around names = (name : List ℕ) → IsSome (around.head (standing name)) → is_among name names ≡ true

-- each stream that there is, is known and verified
abbrev pub AreAllVerified : Codes → Type 0
AreAllVerified codes = (stream : Stream) (code : List Code) → codes.code stream ≡ Some code → (codes.known stream ≡ true) × IsVerified code

-- a part of a stream may begin in a world, which has what was reached alone
pub record MayRun (codes : Codes) (key : Key) (w : World) : Type 0 where
  pub start : MayStart key.part w
  pub here : w.here ≡ key.stream
  pub reached : IsPartReached codes key.stream key.part
  pub sound : IsSound codes w

-- Every run of verified streams ends, whichever of them, or of their macros and loops, is run: under some bound it is finished, and
-- leaves a world in which other parts may run.
abbrev pub EveryStreamEnds : Type 0
EveryStreamEnds = (codes : Codes) → AreAllVerified codes → (around : Around) (names : List (List ℕ)) → ListsAll around names
    → (key : Key) → IsSome ((programs_of codes around).process 0 key) → (w : World) → MayRun codes key w
    → (n : ℕ) × IsFinished (ran (runners (programs_of codes around) n key) w).end
    × IsSound codes (ran (runners (programs_of codes around) n key) w).after

-- what is left at the end of a stream's own instructions, where that is no fault: an expression's one value, and of a template nothing
abbrev pub Leaves : StreamKind → End → Type 0
Leaves kind (ends vs) = length vs ≡ length (end_of kind).operands
Leaves kind (faults kinds) = Unit {0}
Leaves kind _ = ⊥

-- So its own instructions leave that.
abbrev pub EveryStreamLeaves : Type 0
EveryStreamLeaves = (codes : Codes) → AreAllVerified codes → (around : Around) (names : List (List ℕ)) → ListsAll around names
    → (stream : Stream) (kind : StreamKind) (code : List Code) → codes.code stream ≡ Some code → IsGood kind code → (w : World) → MayRun codes (whole_of stream) w
    → (n : ℕ) × Leaves kind (run (answer (programs_of codes around) n) (exec code n 0 []) w).end

-- So the run of a template ends, over any context, from its start in a state of its own.
abbrev pub EveryFirstRunEnds : Type 0
EveryFirstRunEnds = (codes : Codes) → AreAllVerified codes → (around : Around) (names : List (List ℕ)) → ListsAll around names
    → IsSome (codes.code (own rendered)) → (id : ℕ) (globals : Globals) (head : Head) (context : Val)
    → (n : ℕ) × IsFinished (ran (runners (programs_of codes around) n (whole_of (own rendered))) (first_world id globals head context)).end
