-- Blocks by what is planned for them.
use Rattle.std.proofs.Common.{suc, [], ◌∷◌, if◌then◌else◌, refl, ap}
use Rattle.std.proofs.KnownBytes.{Appends-nil}
use Rattle.template_compiler_process.specs.Process as events
use Rattle.template_compiler_process.specs.Process.{done, value}
use Rattle.template_compiler_code.specs.Code.{single, fast_recurse, load_blocks, include}
use Rattle.template_compiler_code.specs.Steps.{deed, giving, on_taken}
use Rattle.template_machine_meaning.specs.World.{World, looked_up}
use Rattle.template_machine_meaning.specs.Calls.{call_plan}
use Rattle.template_machine_meaning.specs.Functions.{name_called}
use Rattle.template_machine_meaning.specs.Plans.{settled, caller_of, after_by}
use Rattle.template_machine_meaning.specs.Blocks.{super_called}
use Rattle.template_machine_meaning.specs.Surroundings.{runners, answer}
use Rattle.template_machine_going.proofs.Paths.{paid_nothing}
use Rattle.template_machine_acts.specs.Comings.{behind_it, surrounded}
use Rattle.template_machine_acts.specs.Blocks.{done_behind, value_behind, CallBlockAsks, FastSuperAsks, SuperAsks, LoadBlocksAsks, IncludeAsks, RecurseAsks, SuperPlanned, PlannedActs, PlannedFaults, DoneActs, ValueActs}
use Rattle.template_machine_acts.proofs.Acting.{events_act, events_fault}
use Rattle.template_machine_acts.proofs.Nesting.{nested_acts}

pub call_block_asks : CallBlockAsks
call_block_asks before x name next = refl

pub fast_super_asks : FastSuperAsks
fast_super_asks before x next = refl

pub super_asks : SuperAsks
super_asks before x name count vs below e next =
    ap (λ t. on_taken t (λ us rest. giving next x.place rest (events.call_function name us))) e

pub load_blocks_asks : LoadBlocksAsks
load_blocks_asks before x v below e next = ap (λ o. deed next before load_blocks x.place o) e

pub include_asks : IncludeAsks
include_asks before x ignore v below e next = ap (λ o. deed next before (include ignore) x.place o) e

pub recurse_asks : RecurseAsks
recurse_asks before x v below e next = ap (λ o. deed next before fast_recurse x.place o) e

pub super_planned : SuperPlanned
super_planned s w name vs is =
    ap (λ b. if b then super_called s.around w vs else call_plan s.around w (name_called w.globals (looked_up name w) vs)) is

pub planned_acts : PlannedActs
planned_acts s before c x e below after asking is =
    events_act World (answer s) before c e (done_behind x below) done [] 0 x (behind_it (surrounded x after) below) asking
    (λ n le. ap (settled (runners s n) x.world) is) (λ next. refl) (paid_nothing x.left) (Appends-nil x.taken)

pub planned_faults : PlannedFaults
planned_faults s before c x e follow kinds asking is =
    events_fault World (answer s) before c e follow kinds [] 0 x.world x.left x.taken x asking
    (λ n le. ap (settled (runners s n) x.world) is) (paid_nothing x.left) (Appends-nil x.taken)

pub done_acts : DoneActs
done_acts s before c x e below y runs least items operands after left taken within is end pays text =
    nested_acts s before c x
    (record x { place = suc x.place; operands = below; world = after_by y.purpose (caller_of x.world) after; left = left; taken = taken })
    e (done_behind x below) y runs least items operands after done within is end (λ next. refl) refl pays text

pub value_acts : ValueActs
value_acts s before c x e below y runs least items operands after v left taken within is end pays text =
    nested_acts s before c x
    (record x { place = suc x.place; operands = single v ∷ below; world = after_by y.purpose (caller_of x.world) after; left = left; taken = taken })
    e (value_behind x below) y runs least items operands after (value v) within is end (λ next. refl) refl pays text
