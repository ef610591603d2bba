-- Values as fields show them.
use Rattle.std.specs.Prelude.{ℕ, ℤ, Bool, true, false, List, unsigned_abs, Result, Ok}
use Rattle.std.specs.Int.{is_negative}
use Rattle.template_values_errors.specs.declared.ErrorKind.{ErrorKind}
use Rattle.template_values_model.specs.Val.{Val, int}
use Rattle.template_callables.specs.Callables.{View}
use Rattle.template_builtins_arguments.specs.Answers.{then as after}
use Rattle.template_builtins_arguments.specs.Arguments.{whole}
use Rattle.template_builtins_arguments.specs.Parts.{text_of}
use Rattle.template_builtins_arguments.specs.Printing as printing
use Rattle.template_builtins_fields.specs.Numerals.{numeral}
use Rattle.template_builtins_fields.specs.declared.layouts.Kind.{Kind}
use Rattle.template_builtins_fields.specs.declared.layouts.Kind.TheVariants.{Any, Printed, Number}
use Rattle.template_builtins_fields.specs.declared.numerals.Base.{Base}
use Rattle.template_builtins_fields.specs.declared.numerals.Base.TheVariants.{Decimal}
use Rattle.template_builtins_fields.specs.declared.shown.Form as declared

-- whether it is a number, whether that is below zero, and its digits or the text
abbrev pub Form : Type 0
Form = Bool × (Bool × List ℕ)

abbrev pub seen : declared.Form → Form
seen s = (s.number, (s.negative, printing.shown s.body))

abbrev pub text_shown : View → Val → Result Form ErrorKind
text_shown view v = after (text_of view v) (λ s. Ok (false, (false, s)))

abbrev pub number_shown : Base → ℤ → Form
number_shown base z = (true, (is_negative z, numeral base (unsigned_abs z)))

-- a number by its digits, another value as it is printed
abbrev pub any_shown : View → Val → Result Form ErrorKind
any_shown view (int z) = Ok (number_shown Decimal z)
any_shown view v = text_shown view v

-- a value as a kind of field shows it
unfoldable pub shown : View → Kind → Val → Result Form ErrorKind
shown view Any v = any_shown view v
shown view Printed v = text_shown view v
shown view (Number base) v = after (whole v) (λ z. Ok (number_shown base z))
