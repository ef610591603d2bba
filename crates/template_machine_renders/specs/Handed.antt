-- Streams that were handed in, as runs.
use Rattle.std.specs.Prelude.{◌≡◌, ◌≤◌, ℕ, List, [], ◌∷◌, Option, None, Some, Result, Ok, Err, if◌then◌else◌}
use Rattle.template_values_errors.specs.declared.ErrorKind.TheVariants.{InvalidOperation}
use Rattle.template_values_model.specs.Val.{Val}
use Rattle.template_compiler_process.specs.Drive.{ends, faults}
use Rattle.template_compiler_process.specs.Trace.{Run, ended, run}
use Rattle.template_compiler_code.specs.Code.{Code}
use Rattle.template_compiler_code.specs.Steps.{exec}
use Rattle.template_machine_going.specs.declared.stop.Stop.{Stop}
use Rattle.template_machine_meaning.specs.Keys as keys
use Rattle.template_machine_meaning.specs.Keys.{Key, own, whole_of}
use Rattle.template_machine_meaning.specs.Plans.{caller_of, put_back, ran}
use Rattle.template_machine_meaning.specs.Surroundings.{Programs, answer, runners}
use Rattle.template_machine_meaning.specs.World.{World, has_room}
use Rattle.template_machine_state.specs.Changes.{stream_begun}
use Rattle.template_machine_loop.specs.Programs.{Roots}
use Rattle.template_machine_loop.specs.Runs.{Breaks, EndsSo}

-- what runs of its own, with a stream that is handed in by a number; and that stream's key
abbrev pub handing : ℕ → List Code → Roots → Roots
handing number code roots = record roots { kept = Some (number, code) }

abbrev pub handed : ℕ → Key
handed number = whole_of (own (keys.kept number))

-- what its own instructions come to from a world on, under a bound; and what it comes to with the templates that it extends
abbrev pub own_run : Programs → List Code → World → ℕ → Run World
own_run s code w n = run (answer s n) (exec code n 0 []) w

abbrev pub begun_run : Programs → ℕ → World → ℕ → Run World
begun_run s number w n = ran (runners s n (handed number)) w

-- what was open before is so again
abbrev pub backed : World → Run World → Run World
backed w r = record r { after = put_back (caller_of w) r.after }

-- it runs as a template's, in a frame of its own, where there is room for one
abbrev pub stream_run : Programs → ℕ → World → ℕ → Run World
stream_run s number w n =
    if has_room s.around.limit 1 w then backed w (begun_run s number (stream_begun number w) n)
    else ended (faults (InvalidOperation ∷ [])) w

-- Runs come to their end, under every bound that is great enough, and these values are left.
abbrev pub LeavesAtEnd : (ℕ → Run World) → List Val → Type 0
LeavesAtEnd runs vs = (least : ℕ) × ((n : ℕ) → least ≤ n → (runs n).end ≡ ends vs)

-- the values that are left, if one is or none
abbrev pub at_most_one : Option Val → List Val
at_most_one None = []
at_most_one (Some v) = v ∷ []

-- A call comes to the end of runs, and gives the value that others leave; or it stops before it.
abbrev pub ComesGiving : (ℕ → Run World) → (ℕ → Run World) → Option ℕ → Option (List ℕ) → Result (Option Val) Stop → World → Option ℕ
    → Option (List ℕ) → Type 0
ComesGiving alone runs left taken (Ok value) after rest written =
    EndsSo runs after left rest taken written × LeavesAtEnd alone (at_most_one value)
ComesGiving alone runs left taken (Err stop) after rest written = Breaks runs stop after left rest taken written
