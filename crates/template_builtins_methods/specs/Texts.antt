-- What the methods of texts make.
use Rattle.std.specs.Prelude.{List}
use Rattle.std.specs.StrCase.Lower.{str_to_lowercase}
use Rattle.std.specs.StrCase.Upper.{str_to_uppercase}
use Rattle.template_values_model.specs.Val.{Val}
use Rattle.template_callables.specs.Callables.{View}
use Rattle.template_builtins_arguments.specs.Answers.{Made}
use Rattle.template_builtins_texts.specs.Cases.{capitalized}
use Rattle.template_builtins_methods.specs.Cases.{swapped, titled}
use Rattle.template_builtins_methods.specs.Ends.{stands}
use Rattle.template_builtins_methods.specs.Letters.{are_digits, are_letters, are_letters_or_digits, are_lower, are_spaces, are_upper}
use Rattle.template_builtins_methods.specs.Places.{counted, found, indexed}
use Rattle.template_builtins_methods.specs.Reading.{asked, changed}
use Rattle.template_builtins_methods.specs.Strips.{strip}
use Rattle.template_builtins_methods.specs.declared.ends.End.TheVariants.{Front, Back}
use Rattle.template_builtins_methods.specs.declared.places.Direction.TheVariants.{FromStart, FromEnd}
use Rattle.template_builtins_methods.specs.declared.strips.Side.TheVariants.{Both, Left, Right}
use Rattle.template_builtins_methods.specs.declared.texts.TextMethod.{TextMethod}
use Rattle.template_builtins_methods.specs.declared.texts.TextMethod.TheVariants as methods

abbrev pub text_called : TextMethod → View → Val → List Val → Made
text_called methods.Upper view v vs = changed str_to_uppercase v vs
text_called methods.Lower view v vs = changed str_to_lowercase v vs
text_called methods.Title view v vs = changed titled v vs
text_called methods.SwapCase view v vs = changed swapped v vs
text_called methods.Capitalize view v vs = changed capitalized v vs
text_called methods.Strip view v vs = strip Both v vs
text_called methods.LStrip view v vs = strip Left v vs
text_called methods.RStrip view v vs = strip Right v vs
text_called methods.StartsWith view v vs = stands Front v vs
text_called methods.EndsWith view v vs = stands Back v vs
text_called methods.Find view v vs = found FromStart v vs
text_called methods.RFind view v vs = found FromEnd v vs
text_called methods.Index view v vs = indexed v vs
text_called methods.Count view v vs = counted v vs
text_called methods.IsDigit view v vs = asked are_digits v vs
text_called methods.IsAlpha view v vs = asked are_letters v vs
text_called methods.IsAlnum view v vs = asked are_letters_or_digits v vs
text_called methods.IsSpace view v vs = asked are_spaces v vs
text_called methods.IsLower view v vs = asked are_lower v vs
text_called methods.IsUpper view v vs = asked are_upper v vs
