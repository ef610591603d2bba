-- What callables set is nothing that a run keeps.
use Rattle.std.proofs.Common.{Result, Ok, Err, OnErr, ap}
use Rattle.template_machine_meaning.specs.Keeps.{KeepsWorld}
use Rattle.template_machine_meaning.specs.World.{World}
use Rattle.template_machine_meaning.proofs.RunsKept.{rest_of, all_kept}
use Rattle.template_machine_going.specs.declared.stop.Stop.{Stop}
use Rattle.template_machine_state.specs.Changes.{OnlyTemps}
use Rattle.template_machine_calls.specs.Left.{IsOpenAlike, KeptUnlessValue}
use Rattle.template_machine_calls.specs.declared.reached.Reached.{Reached}

-- a world in which nothing else is other keeps what every run keeps
pub temps_keep : (w after : World) → OnlyTemps w after → KeepsWorld w after
temps_keep w after is = all_kept w after (ap rest_of is) (ap (λ (t : World). t.frames) is)

-- so it is where what is open is as it was
pub open_keeps : (w after : World) → IsOpenAlike w after → KeepsWorld w after
open_keeps w after is = all_kept w after (ap rest_of is) (ap (λ (t : World). t.frames) is)

-- a failed call leaves such a world
pub kept_err : (stop : Stop) (w after : World) → KeptUnlessValue (Err stop) w after → OnlyTemps w after
kept_err stop w after kept = kept

-- and so does a call, where it failed
pub temps_on_err : (result : Result Reached Stop) (w after : World) → KeptUnlessValue result w after → OnErr result (OnlyTemps w after)
temps_on_err (Ok x) w after kept = tt
temps_on_err (Err stop) w after kept = kept

pub keeps_on_err : (result : Result Reached Stop) (w after : World) → KeptUnlessValue result w after → OnErr result (KeepsWorld w after)
keeps_on_err (Ok x) w after kept = tt
keeps_on_err (Err stop) w after kept = temps_keep w after kept
