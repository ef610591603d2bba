-- What filters on the layout of texts read.
use Rattle.std.specs.Prelude.{ℕ, ℤ, List, [], Option, Result}
use Rattle.template_values_errors.specs.declared.ErrorKind.{ErrorKind}
use Rattle.template_values_model.specs.Val.{Val}
use Rattle.template_callables.specs.Callables.{View}
use Rattle.template_builtins_arguments.specs.Answers.{then}
use Rattle.template_builtins_arguments.specs.Arguments.{arguments, number_from}
use Rattle.template_builtins_arguments.specs.Parts.{text_of}
use Rattle.template_builtins_layout.specs.Widths.{width_from}

-- the text of a value, where no argument is given
abbrev pub lone_text : View → Val → List Val → Result (List ℕ) ErrorKind
lone_text view v vs = then (arguments [] 0 vs) (λ given. text_of view v)

-- the width that an argument is, or its default
abbrev pub width_of : Option Val → ℤ → Result ℕ ErrorKind
width_of given default = then (number_from given default) width_from
