-- Runs of bytes that stand for themselves.
use Rattle.std.specs.Prelude.{ℕ, Bool, not, nat_lt, ◌||◌, ◌==◌}
use Rattle.template_values_print.specs.declared.runs.Stops.{Stops}
use Rattle.template_values_print.specs.declared.runs.Stops.TheVariants.{Markup, Escaped}

-- what HTML reads as markup
abbrev pub is_markup : ℕ → Bool
is_markup x = (x == 60) || (x == 62) || (x == 38) || (x == 34) || (x == 39) || (x == 47)

-- what has an escape between quotes, as values print or as JSON has it
abbrev pub is_escaped : ℕ → Bool
is_escaped x = nat_lt x 32 || (x == 34) || (x == 92) || (x == 127)

abbrev pub is_stop : Stops → ℕ → Bool
is_stop Markup = is_markup
is_stop Escaped = is_escaped

abbrev pub stands : Stops → ℕ → Bool
stands stops x = not (is_stop stops x)
