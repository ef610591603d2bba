-- Which text stands under a name after additions in order.
use Rattle.std.specs.Prelude.{ℕ, List, [], ◌∷◌, Option, None, Some, if◌then◌else◌}
use Rattle.std.specs.Option.{option_map}
use Rattle.std.specs.Str.{bytes_eq}
use Rattle.template_machine_environment_settings.specs.Sources.{Source}
use Rattle.template_program_run.specs.Served.{Served, plainly_served}

-- the one given last under the name
abbrev pub text_under : List ℕ → Option (List ℕ) → List (List ℕ × List ℕ) → Option (List ℕ)
text_under name before [] = before
text_under name before (addition ∷ later) = text_under name (if bytes_eq addition.0 name then Some addition.1 else before) later

abbrev pub standing : List (List ℕ × List ℕ) → List ℕ → Option (List ℕ)
standing additions name = text_under name None additions

-- a text, under the syntax and the rule of escapes that its request is served with
abbrev pub source_under : Served → List ℕ → Source
source_under served text = record { text = text; syntax = served.syntax; escapes = served.escapes }

-- a text, under the default syntax, with escapes by name
abbrev pub source_for : List ℕ → Source
source_for text = source_under plainly_served text

abbrev pub source_standing : Served → List (List ℕ × List ℕ) → List ℕ → Option Source
source_standing served additions name = option_map (source_under served) (standing additions name)
