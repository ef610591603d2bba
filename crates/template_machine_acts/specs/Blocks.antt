-- What the instructions ask that run blocks, or load those of the template that is extended; and what comes of plans.
use Rattle.std.specs.Prelude.{◌≡◌, Bool, true, ℕ, suc, ◌≤◌, List, ◌∷◌, Option, Some}
use Rattle.std.specs.Io.KnownBytes.{Appends}
use Rattle.template_values_errors.specs.declared.ErrorKind.{ErrorKind}
use Rattle.template_values_model.specs.Val.{Val}
use Rattle.template_compiler_walk.specs.Statements.{is_super_name}
use Rattle.template_compiler_process.specs.Process as events
use Rattle.template_compiler_process.specs.Process.{Counts, Ask, Answer, Process, done, value, tells, fails, on_done, on_value}
use Rattle.template_compiler_process.specs.Drive.{ends}
use Rattle.template_compiler_process.specs.Trace.{Item, Run, behind, ended, text_of, price_of}
use Rattle.template_compiler_code.specs.Code.{Operand, single, Code, call_function, call_block, fast_super, fast_recurse, load_blocks, include}
use Rattle.template_compiler_code.specs.Steps.{handed}
use Rattle.template_machine_meaning.specs.World.{World}
use Rattle.template_machine_meaning.specs.Replies.{told, changed}
use Rattle.template_machine_meaning.specs.Plans.{Within, replies, caller_of, after_by}
use Rattle.template_machine_meaning.specs.Blocks.{super_called}
use Rattle.template_machine_meaning.specs.Surroundings.{plan, Programs, answer}
use Rattle.template_machine_going.specs.Spots.{Spot}
use Rattle.template_machine_going.specs.Paying.{Paid}
use Rattle.template_machine_going.specs.Acts.{Next, Acts}
use Rattle.template_machine_going.specs.Outcomes.{FaultsWith}
use Rattle.template_machine_acts.specs.Events.{AsksThen}
use Rattle.template_machine_acts.specs.Comings.{behind_it, surrounded}
use Rattle.template_machine_acts.specs.Nested.{Enters, begun, told_behind}

-- the run goes on behind the instruction, over these operands, once the event is done; or with the value that it gives on top
abbrev pub done_behind : Spot World → List Operand → Next → Answer → Process
done_behind x below next = on_done (next (suc x.place) below)

abbrev pub value_behind : Spot World → List Operand → Next → Answer → Process
value_behind x below next = on_value (λ v. next (suc x.place) (single v ∷ below))

-- What each instruction asks, and what is planned for it.
abbrev pub CallBlockAsks : Type 0
CallBlockAsks = (before : Counts) (x : Spot World) (name : List ℕ)
    → AsksThen before (call_block name) x (events.call_block name) (done_behind x x.operands)

abbrev pub FastSuperAsks : Type 0
FastSuperAsks = (before : Counts) (x : Spot World) → AsksThen before fast_super x events.super_block (done_behind x x.operands)

abbrev pub SuperAsks : Type 0
SuperAsks = (before : Counts) (x : Spot World) (name : List ℕ) (count : Option ℕ) (vs : List Val) (below : List Operand)
    → handed count x.operands ≡ Some (vs, below)
    → AsksThen before (call_function name count) x (events.call_function name vs) (value_behind x below)

abbrev pub LoadBlocksAsks : Type 0
LoadBlocksAsks = (before : Counts) (x : Spot World) (v : Val) (below : List Operand) → x.operands ≡ single v ∷ below
    → AsksThen before load_blocks x (events.load_blocks v) (done_behind x below)

abbrev pub IncludeAsks : Type 0
IncludeAsks = (before : Counts) (x : Spot World) (ignore : Bool) (v : Val) (below : List Operand) → x.operands ≡ single v ∷ below
    → AsksThen before (include ignore) x (events.include ignore v) (done_behind x below)

abbrev pub RecurseAsks : Type 0
RecurseAsks = (before : Counts) (x : Spot World) (v : Val) (below : List Operand) → x.operands ≡ single v ∷ below
    → AsksThen before fast_recurse x (events.recurse v) (done_behind x below)

abbrev pub SuperPlanned : Type 0
SuperPlanned = (s : Programs) (w : World) (name : List ℕ) (vs : List Val) → is_super_name name ≡ true
    → plan s.around w (events.call_function name vs) ≡ super_called s.around w vs

-- What is planned to be done at once is done, in another world from then on.
abbrev pub PlannedActs : Type 0
PlannedActs = (s : Programs) (before : Counts) (c : Code) (x : Spot World) (e : Ask) (below : List Operand) (after : World)
    → AsksThen before c x e (done_behind x below) → plan s.around x.world e ≡ replies (changed after done)
    → Acts (answer s) before c x (behind_it (surrounded x after) below)

-- What is planned to be refused faults.
abbrev pub PlannedFaults : Type 0
PlannedFaults = (s : Programs) (before : Counts) (c : Code) (x : Spot World) (e : Ask) (follow : Next → Answer → Process) (kinds : List ErrorKind)
    → AsksThen before c x e follow → plan s.around x.world e ≡ replies (told x.world (fails kinds))
    → FaultsWith (answer s) before c x kinds x.world x.left x.taken

-- A run within that comes to its end, which is only done: the run goes on behind the instruction, with what that left put back.
abbrev pub DoneActs : Type 0
DoneActs = (s : Programs) (before : Counts) (c : Code) (x : Spot World) (e : Ask) (below : List Operand) (y : Within)
    (runs : ℕ → World → Run World) (least : ℕ) (items : List Item) (operands : List Val) (after : World)
    (left : Option ℕ) (taken : Option (List ℕ)) → Enters s before c x e (done_behind x below) y runs least
    → ((n : ℕ) → least ≤ n → begun y runs n ≡ behind items (ended (ends operands) after))
    → told_behind y x.world after ≡ tells done
    → Paid (price_of items) x.left left → Appends x.taken taken (text_of items)
    → Acts (answer s) before c x
    (record x { place = suc x.place; operands = below; world = after_by y.purpose (caller_of x.world) after; left = left; taken = taken })

-- One that gives a value: the same, with the value on top.
abbrev pub ValueActs : Type 0
ValueActs = (s : Programs) (before : Counts) (c : Code) (x : Spot World) (e : Ask) (below : List Operand) (y : Within)
    (runs : ℕ → World → Run World) (least : ℕ) (items : List Item) (operands : List Val) (after : World) (v : Val)
    (left : Option ℕ) (taken : Option (List ℕ)) → Enters s before c x e (value_behind x below) y runs least
    → ((n : ℕ) → least ≤ n → begun y runs n ≡ behind items (ended (ends operands) after))
    → told_behind y x.world after ≡ tells (value v)
    → Paid (price_of items) x.left left → Appends x.taken taken (text_of items)
    → Acts (answer s) before c x
    (record x { place = suc x.place; operands = single v ∷ below; world = after_by y.purpose (caller_of x.world) after; left = left; taken = taken })
