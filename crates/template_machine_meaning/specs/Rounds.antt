-- Rounds of a loop that are called again, over the items of a value.
use Rattle.std.specs.Prelude.{suc, Bool, true, false, List, [], ◌∷◌, length, Option, None, Some, is_some, Result, Ok, Err}
use Rattle.template_values_errors.specs.declared.ErrorKind.{ErrorKind}
use Rattle.template_values_errors.specs.declared.ErrorKind.TheVariants.{InvalidOperation, UnknownFunction}
use Rattle.template_values_model.specs.Val.{Val}
use Rattle.template_values_operators.specs.Iterated.{iterated}
use Rattle.template_compiler_process.specs.Process.{fails}
use Rattle.template_machine_meaning.specs.World.{Rounds, Loop, Frame, World, loop_over, loop_frame, counted_loop, seen_frames}
use Rattle.template_machine_meaning.specs.Records.{known_of}
use Rattle.template_machine_meaning.specs.Blocks.{captured_if}
use Rattle.template_machine_meaning.specs.Undefined.{forbids_iterating}
use Rattle.template_machine_meaning.specs.Replies.{told, refused, kinded, guarded}
use Rattle.template_machine_meaning.specs.Keys.{rounds_of, Around}
use Rattle.template_machine_meaning.specs.Plans.{runs_rounds, Within, Plan, replies, room_for}

-- the loop of the rounds: it has its variable where the loop that is called has it
abbrev pub loop_again : World → Loop → Rounds → List Val → Loop
loop_again w l rounds vs = record (loop_over w (is_some l.variable) (Some rounds) vs) { called = true }

-- they run in the frames of the run that calls them, in a frame of their own, and belong to that run
abbrev pub rounds_within : World → Bool → Loop → Rounds → List Val → Within
rounds_within w named l rounds vs = record {
  key = record { stream = rounds.stream; part = rounds_of rounds.number };
  begins = record (counted_loop w) {
    here = rounds.stream;
    frames = loop_frame (loop_again w l rounds vs) ∷ w.frames;
    floor = suc (length w.frames);
    saved = [];
    captures = captured_if named w.captures;
  };
  wraps = [];
  purpose = runs_rounds named;
  behind = [];
}

-- what can't be gone over refuses the call, as its cause
abbrev pub rounds_over : Around → World → Bool → Loop → Rounds → Result (List Val) ErrorKind → Plan
rounds_over a w named l rounds (Ok vs) = room_for a.limit 1 w (rounds_within w named l rounds vs)
rounds_over a w named l rounds (Err kind) = replies (told w (fails (InvalidOperation ∷ kind ∷ [])))

-- a loop may be called again where it is recursive
abbrev pub rounds_from : Around → World → Bool → Val → Loop → Option Rounds → Plan
rounds_from a w named v l None = replies (refused w InvalidOperation)
rounds_from a w named v l (Some rounds) =
    rounds_over a w named l rounds (guarded (forbids_iterating a.undefined v) (kinded (iterated (known_of w) v)))

abbrev pub rounds_plan : Around → World → Bool → Val → Loop → Plan
rounds_plan a w named v l = rounds_from a w named v l l.rounds

-- by its name a loop takes one argument
abbrev pub again_plan : Around → World → List Val → Option Loop → Plan
again_plan a w (v ∷ []) (Some l) = rounds_plan a w true v l
again_plan a w _ _ = replies (refused w InvalidOperation)

-- the innermost loop of the frames that are seen
abbrev pub innermost_loop : List Frame → Option Loop
innermost_loop [] = None
innermost_loop (f ∷ fs) = elim f.loop [ None ↦ innermost_loop fs | Some l ↦ Some l ]

abbrev pub recursed : Around → World → Val → Option Loop → Plan
recursed a w v None = replies (refused w UnknownFunction)
recursed a w v (Some l) = rounds_plan a w false v l

abbrev pub recurse_plan : Around → World → Val → Plan
recurse_plan a w v = recursed a w v (innermost_loop (seen_frames w))
