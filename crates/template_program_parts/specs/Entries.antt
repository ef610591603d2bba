-- What entries say under names: the last one with a name counts.
use Rattle.std.specs.Prelude.{◌≡◌, ℕ, List, Option, String}
use Rattle.std.specs.declared.alloc.Global.{Global}
use Rattle.template_values_core.specs.Maps.{last_at}
use Rattle.template_values_core.specs.Shape.{pairs_in}
use Rattle.template_values_core.specs.declared.value.Entry.{Entry}
use Rattle.template_program_parts.specs.Context.{member_under, context_under, text_pairs}

-- the entries say the same as the members of the JSON
abbrev pub SayJson : Option (List ℕ) → List Entry → Type 0
SayJson json entries = (name : List ℕ) → last_at name (pairs_in entries) ≡ member_under json name

-- the entries say what the context has under every name
abbrev pub SayContext : Option (List ℕ) → List (String Global × String Global) → List Entry → Type 0
SayContext json definitions entries = (name : List ℕ) → last_at name (pairs_in entries) ≡ context_under json (text_pairs definitions) name
