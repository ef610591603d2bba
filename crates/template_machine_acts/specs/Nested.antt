-- What an instruction comes to whose event enters a run within that is known under every bound from a least one on.
use Rattle.std.specs.Prelude.{◌≡◌, ℕ, ◌≤◌, ◌++◌, List, Option, Some}
use Rattle.std.specs.Io.KnownBytes.{Appends}
use Rattle.template_values_errors.specs.declared.ErrorKind.{ErrorKind}
use Rattle.template_values_model.specs.Val.{Val}
use Rattle.template_compiler_process.specs.Process.{Counts, Ask, Answer, Told, tells, fails, Process}
use Rattle.template_compiler_process.specs.Drive.{ends}
use Rattle.template_compiler_process.specs.Trace.{Item, Run, behind, ended, text_of, price_of}
use Rattle.template_compiler_code.specs.Code.{Code}
use Rattle.template_machine_meaning.specs.World.{World}
use Rattle.template_machine_meaning.specs.Turnings.{turned}
use Rattle.template_machine_meaning.specs.Plans.{Within, enters, caller_of, after_by, given}
use Rattle.template_machine_meaning.specs.Surroundings.{plan, Programs, runners, answer}
use Rattle.template_machine_going.specs.Spots.{Spot}
use Rattle.template_machine_going.specs.Paying.{Paid}
use Rattle.template_machine_going.specs.Stops.{Faults, RunsOut, Wants}
use Rattle.template_machine_going.specs.Acts.{Next, Acts}
use Rattle.template_machine_going.specs.Strays.{Strays}
use Rattle.template_machine_going.specs.Outcomes.{FaultsWith, RunsOutWith, WantsWith, IsAstray}
use Rattle.template_machine_acts.specs.Events.{AsksThen, LeadsTo}

-- the instruction asks the event and goes on so at what it is answered; the event enters this run within, whose key runs
-- so under each bound
pub record Enters (s : Programs) (before : Counts) (c : Code) (x : Spot World) (e : Ask) (follow : Next → Answer → Process) (y : Within)
    (runs : ℕ → World → Run World) (least : ℕ) : Type 0 where
  pub asks : AsksThen before c x e follow
  pub planned : plan s.around x.world e ≡ enters y
  pub found : (n : ℕ) → least ≤ n → runners s n y.key ≡ Some (runs n)

-- from where it begins
abbrev pub begun : Within → (ℕ → World → Run World) → ℕ → Run World
begun y runs n = runs n y.begins

-- what is told where it ended in a world
abbrev pub told_behind : Within → World → World → Told
told_behind y w after = turned (after_by y.purpose (caller_of w) after) y.behind (tells (given y.purpose (caller_of w) after))

-- A run within that comes to its end: the run goes on at what is made of what that gives, with what it left put back.
abbrev pub NestedActs : Type 0
NestedActs = (s : Programs) (before : Counts) (c : Code) (x z : Spot World) (e : Ask) (follow : Next → Answer → Process) (y : Within)
    (runs : ℕ → World → Run World) (least : ℕ) (items : List Item) (operands : List Val) (after : World) (a : Answer)
    → Enters s before c x e follow y runs least
    → ((n : ℕ) → least ≤ n → begun y runs n ≡ behind items (ended (ends operands) after))
    → told_behind y x.world after ≡ tells a → LeadsTo follow a z → z.world ≡ after_by y.purpose (caller_of x.world) after
    → Paid (price_of items) x.left z.left → Appends x.taken z.taken (text_of items) → Acts (answer s) before c x z

-- So it does where nothing can be made of what that gives: the instruction faults.
abbrev pub NestedTurns : Type 0
NestedTurns = (s : Programs) (before : Counts) (c : Code) (x : Spot World) (e : Ask) (follow : Next → Answer → Process) (y : Within)
    (runs : ℕ → World → Run World) (least : ℕ) (items : List Item) (operands : List Val) (ended_in : World) (kinds : List ErrorKind) (later : Option ℕ)
    (after : Option (List ℕ)) → Enters s before c x e follow y runs least
    → ((n : ℕ) → least ≤ n → begun y runs n ≡ behind items (ended (ends operands) ended_in))
    → told_behind y x.world ended_in ≡ fails kinds
    → Paid (price_of items) x.left later → Appends x.taken after (text_of items)
    → FaultsWith (answer s) before c x kinds (after_by y.purpose (caller_of x.world) ended_in) later after

-- A run within that faults: so does the instruction, which wraps the fault, with what that left put back.
abbrev pub NestedFaults : Type 0
NestedFaults = (s : Programs) (before : Counts) (c : Code) (x : Spot World) (e : Ask) (follow : Next → Answer → Process) (y : Within)
    (runs : ℕ → World → Run World) (least : ℕ) (kinds : List ErrorKind) (ended_in : World) (later : Option ℕ) (after : Option (List ℕ))
    → Enters s before c x e follow y runs least → Faults (begun y runs) kinds ended_in x.left later x.taken after
    → FaultsWith (answer s) before c x (y.wraps ++ kinds) (after_by y.purpose (caller_of x.world) ended_in) later after

-- A run within that runs out of fuel.
abbrev pub NestedRunsOut : Type 0
NestedRunsOut = (s : Programs) (before : Counts) (c : Code) (x : Spot World) (e : Ask) (follow : Next → Answer → Process) (y : Within)
    (runs : ℕ → World → Run World) (least : ℕ) (kinds : List ErrorKind) (later : Option ℕ) (after : Option (List ℕ))
    → Enters s before c x e follow y runs least → RunsOut (begun y runs) kinds x.left later x.taken after
    → RunsOutWith (answer s) before c x (y.wraps ++ kinds) later after

-- A run within that stops for want of memory or of a sink that works.
abbrev pub NestedWants : Type 0
NestedWants = (s : Programs) (before : Counts) (c : Code) (x : Spot World) (e : Ask) (follow : Next → Answer → Process) (y : Within)
    (runs : ℕ → World → Run World) (least : ℕ) (later : Option ℕ) (after : Option (List ℕ))
    → Enters s before c x e follow y runs least → Wants (begun y runs) x.left later x.taken after
    → WantsWith (answer s) before c x later after

-- A run within that is lost: so is the instruction.
abbrev pub NestedStrays : Type 0
NestedStrays = (s : Programs) (before : Counts) (c : Code) (x : Spot World) (e : Ask) (follow : Next → Answer → Process) (y : Within)
    (runs : ℕ → World → Run World) (least : ℕ) → Enters s before c x e follow y runs least → Strays (begun y runs)
    → IsAstray (answer s) before c x
