-- What a name means in a template, by what a case says.
use Rattle.std.specs.Prelude.{ℕ, List, [], ◌∷◌, ◌++◌, map, option_to_list, Result, Ok, Err, String, string_bytes, if◌then◌else◌}
use Rattle.std.specs.Global.{Global}
use Rattle.std.specs.Str.{bytes_eq}
use Rattle.template_values_errors.specs.declared.ErrorKind.{ErrorKind}
use Rattle.template_callables.specs.Joins.{Joins}
use Rattle.template_rows.specs.declared.joined.Joined.{Joined}
use Rattle.template_rows.specs.declared.joined.Means.{Means}
use Rattle.template_rows.specs.declared.joined.Means.TheVariants.{Behind, Fails}

abbrev pub prefixes_in : List (String Global × String Global) → List (List ℕ × List ℕ)
prefixes_in = map (λ (p : String Global × String Global). (string_bytes p.0, string_bytes p.1))

-- the first text that stands for a template; an empty one, if none does
abbrev pub prefix_at : List ℕ → List (List ℕ × List ℕ) → List ℕ
prefix_at parent [] = []
prefix_at parent (p ∷ prefixes) = if bytes_eq p.0 parent then p.1 else prefix_at parent prefixes

abbrev pub means_say : Means → List ℕ → List ℕ → Result (List ℕ) (List ErrorKind)
means_say (Behind prefixes) name parent = Ok (prefix_at parent (prefixes_in prefixes.items) ++ name)
means_say (Fails kind cause) name parent = Err (kind ∷ option_to_list cause)

abbrev pub joined_says : Joined → Joins
joined_says j = means_say j.means
