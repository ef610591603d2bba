-- What is printed in the place of a value, by what a case brings.
use Rattle.std.specs.Prelude.{ℕ, List, [], ◌∷◌, Option, None, Some}
use Rattle.template_values_model.specs.Val.{Val}
use Rattle.template_values_core.specs.Answers.{text_in}
use Rattle.template_callables.specs.Callables.{View, Stated, finishes, refuses, goes_on, Formatted, writes, escapes, forbids}
use Rattle.template_rows.specs.Brings.{brought_says}
use Rattle.template_rows.specs.declared.brought.Brought.{Brought}

-- a text stands as it is, another value is printed under the escape in force
abbrev pub as_text : Val → Option (List ℕ) → Formatted
as_text v (Some text) = writes text
as_text v None = escapes v

abbrev pub text_or_value : Val → Formatted
text_or_value v = as_text v (text_in v)

-- the value itself where more is asked for
abbrev pub formatted_as : Val → Stated → Formatted
formatted_as v (finishes temps answer) = text_or_value answer
formatted_as v (refuses kinds) = forbids kinds
formatted_as v (goes_on temps asked) = escapes v

abbrev pub formats_say : Brought → View → Val → Formatted
formats_say b view v = formatted_as v (brought_says b view (v ∷ []))
