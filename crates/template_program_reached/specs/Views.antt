-- What contracts see of names, templates and places.
use Rattle.std.specs.Prelude.{ℕ, List, map, String, string_bytes}
use Rattle.std.specs.declared.alloc.Global.{Global}
use Rattle.template_program_reached.specs.Loaded as spec
use Rattle.template_program_reached.specs.declared.loaded.Place.{Place}
use Rattle.template_program_reached.specs.declared.loaded.Place.TheVariants.{Elsewhere, AtStart, Loading, Naming}

abbrev pub names_in : List (String Global) → List (List ℕ)
names_in names = map string_bytes names

-- names with sources
abbrev pub texts_in : List (String Global × String Global) → List (List ℕ × List ℕ)
texts_in templates = map (λ t. (string_bytes t.0, string_bytes t.1)) templates

abbrev pub place_of : Place → spec.Place
place_of Elsewhere = spec.elsewhere
place_of AtStart = spec.at_start
place_of Loading = spec.loading
place_of (Naming name) = spec.naming (string_bytes name)
