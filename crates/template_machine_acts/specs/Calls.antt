-- What comes of keyword arguments that are built and merged.
use Rattle.std.specs.Prelude.{◌≡◌, ℕ, ◌*◌, List, [], Some}
use Rattle.template_values_model.specs.Val.{Val}
use Rattle.template_compiler_walk.specs.Containers.{kwargs_made}
use Rattle.template_compiler_process.specs.Process.{Counts}
use Rattle.template_compiler_code.specs.Code.{Operand, build_kwargs, merge_kwargs}
use Rattle.template_compiler_code.specs.Steps.{taken, paired}
use Rattle.template_machine_meaning.specs.Records.{known_of}
use Rattle.template_machine_meaning.specs.Replies.{kinded}
use Rattle.template_machine_meaning.specs.Spreads.{merged_keywords}
use Rattle.template_machine_meaning.specs.Surroundings.{Programs}
use Rattle.template_machine_meaning.specs.World.{World}
use Rattle.template_machine_going.specs.Spots.{Spot}
use Rattle.template_machine_acts.specs.Comings.{ComesTo, with_value}

abbrev pub BuildKwargsActs : Type 0
BuildKwargsActs = (s : Programs) (before : Counts) (x : Spot World) (n : ℕ) (vs : List Val) (below : List Operand)
    → taken (n * 2) x.operands [] ≡ Some (vs, below)
    → ComesTo s before (build_kwargs n) x (with_value x below (kinded (kwargs_made (paired vs))))

-- Several maps become one keyword map.
abbrev pub MergeKwargsActs : Type 0
MergeKwargsActs = (s : Programs) (before : Counts) (x : Spot World) (n : ℕ) (vs : List Val) (below : List Operand)
    → taken n x.operands [] ≡ Some (vs, below)
    → ComesTo s before (merge_kwargs n) x (with_value x below (merged_keywords s.around.undefined (known_of x.world) vs))
