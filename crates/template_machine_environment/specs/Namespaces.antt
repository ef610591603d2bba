-- Namespaces that are made from Rust.
use Rattle.std.specs.Prelude.{◌≡◌, List, Result, Ok, Err}
use Rattle.template_values_errors.specs.declared.ErrorKind.{ErrorKind}
use Rattle.template_values_model.specs.Val.{Val}
use Rattle.template_machine_meaning.specs.Namespaces.{made_namespace}
use Rattle.template_machine_meaning.specs.World.{World}

-- the world has one namespace more, which holds these entries
abbrev pub HoldsMore : Result (List (Val × Val)) ErrorKind → World → World → Type 0
HoldsMore (Ok entries) before after = after ≡ made_namespace before entries
HoldsMore (Err kind) before after = ⊥
