-- What an environment gives to its runs, and what becomes of it.
use Rattle.std.specs.Prelude.{ℕ, true, List, [], bytes_eq}
use Rattle.std.specs.Map.{remove_entry}
use Rattle.template_values_model.specs.Val.{Val}
use Rattle.template_values_named.specs.Named.{with_named, with_all_named}
use Rattle.template_machine_meaning.specs.World.{Globals}
use Rattle.template_machine_meaning.specs.OwnFunctions.{own_values}

-- the functions that the environment of a number has by itself, under their names
abbrev pub own_globals : ℕ → Globals
own_globals id = record { environment = id; has_own = true; named = with_all_named (own_values id) [] }

-- the name has the value from now on: names stand in their order
abbrev pub with_global : List ℕ → Val → Globals → Globals
with_global name v g = record g { named = with_named name v g.named }

-- the name has none
abbrev pub without_global : List ℕ → Globals → Globals
without_global name g = record g { named = remove_entry (bytes_eq name) g.named }
