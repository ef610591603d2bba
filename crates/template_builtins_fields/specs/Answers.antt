-- What the methods that fill fields in make of a text and the arguments after it.
use Rattle.std.specs.Prelude.{List}
use Rattle.template_values_model.specs.Val.{Val}
use Rattle.template_callables.specs.Callables.{View}
use Rattle.template_builtins_arguments.specs.Answers.{Made}
use Rattle.template_builtins_fields.specs.Formats.{format}
use Rattle.template_builtins_fields.specs.declared.method.FieldMethod.{FieldMethod}
use Rattle.template_builtins_fields.specs.declared.method.FieldMethod.TheVariants.{Format}

abbrev pub field_made : FieldMethod → View → Val → List Val → Made
field_made Format view v vs = format view v vs
