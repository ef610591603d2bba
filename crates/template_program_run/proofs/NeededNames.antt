-- The names that can matter.
use Rattle.std.proofs.Common.{ℕ, List, Option, IsTrue, ◌↔◌, String}
use Rattle.std.specs.BTreeSet.{BTreeSet, contains_text, IsOrdered}
use Rattle.std.specs.String.{string_cmp}
use Rattle.std.specs.declared.alloc.Global.{Global}
use Rattle.template_values_model.specs.Val.{Val}
use Rattle.template_compiler_process.specs.Fuel.{IsSameRun, under}
use Rattle.template_machine_environment_settings.specs.Extras.{Brought}
use Rattle.template_machine_environment_settings.specs.Isolated.{AgreeAmong}
use Rattle.template_machine_environment_settings.specs.Isolation.{IsContextName}
use Rattle.template_machine_environment_settings.specs.Meaning.{Standing, rendered}
use Rattle.template_machine_environment_settings.specs.Standing.{setting_of}
use Rattle.template_machine_environment_settings.specs.Registry.{Registry}
use Rattle.template_program_run.specs.Answers.{HasNames}

-- what is told of names
abbrev Tells : Brought → Registry → Standing → BTreeSet (String Global) → Type 0
Tells k e t names = ((name : List ℕ) → IsTrue (contains_text names name) ↔ IsContextName (setting_of k e) t.tree name)
    × ((c d : Val) → AgreeAmong names c d → (id n : ℕ) (fuel : Option ℕ)
    → IsSameRun (under fuel (rendered (setting_of k e) id n t c)) (under fuel (rendered (setting_of k e) id n t d)))

pub has_names : (k : Brought) (e : Registry) (t : Standing) (names : BTreeSet (String Global)) → IsOrdered string_cmp names
    → Tells k e t names → HasNames k e t names
has_names k e t names ordered told = (ordered, told.0, told.1)
