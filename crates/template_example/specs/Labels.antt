-- What the shop brings under the name of its filter.
use Rattle.std.specs.Prelude.{◌≡◌, ℕ, List, Some, codes, string_bytes}
use Rattle.template_machine.specs.Extras.{Extras}
use Rattle.template_example.specs.declared.callables.Label.{Label}
use Rattle.template_example.specs.declared.callables.Own.{Own}
use Rattle.template_example.specs.declared.callables.Own.TheVariants as owns

-- the filter `label` puts the prefix in front
pub record Labels {M F J R : Type 0} (prefix : List ℕ) (x : Extras Own M F J R) : Type 0 where
  pub label : Label
  pub stands : x.filters (codes "label") ≡ Some (owns.Label label)
  pub prefixed : string_bytes label.prefix ≡ prefix
