-- What entries say under names: the last one with a name counts.
use Rattle.std.specs.Prelude.{◌≡◌, ℕ, List, Option}
use Rattle.std.specs.Option.{option_or}
use Rattle.template_values_model.specs.Val.{Val}
use Rattle.template_values_core.specs.Maps.{last_at}
use Rattle.template_values_core.specs.Shape.{pairs_in}
use Rattle.template_values_core.specs.declared.value.Entry.{Entry}

-- the entries say this under every name
abbrev pub Say : (List ℕ → Option Val) → List Entry → Type 0
Say under entries = (name : List ℕ) → last_at name (pairs_in entries) ≡ under name

-- the entries say this under every name, else what those before said
abbrev pub SayOver : (List ℕ → Option Val) → List Entry → List Entry → Type 0
SayOver under before entries = (name : List ℕ) → last_at name (pairs_in entries) ≡ option_or (under name) (last_at name (pairs_in before))
