-- What the shop's filter, function and test answer, and what answers for methods that values do not have.
use Rattle.std.specs.Prelude.{ℕ, ℤ, int_le, Bool, false, List, [], ◌∷◌, ◌++◌, Option, None, Some, Result, Ok, Err, codes, string_bytes}
use Rattle.template_values_errors.specs.declared.ErrorKind.TheVariants.{InvalidOperation, MissingArgument, TooManyArguments}
use Rattle.template_values.specs.Val as values
use Rattle.template_values.specs.Val.{Val, Pairs, int}
use Rattle.template_values.specs.Answers.{text_in}
use Rattle.template_values.specs.Fault.{Fault, kind_of, invalid_operation, missing_argument}
use Rattle.template_values.specs.Keywords.{keywords, argument}
use Rattle.template_machine.specs.Callables.{View, Stated, finishes, refuses, goes_on, Says, filter}
use Rattle.template_builtins_callables.specs.Says.{builtin_says}
use Rattle.template_builtins_methods.specs.Methods as python
use Rattle.template_builtins_methods.specs.declared.method.PythonMethod.{PythonMethod}
use Rattle.template_example.specs.declared.callables.Cheap.{Cheap}
use Rattle.template_example.specs.declared.callables.ShopMethods.{ShopMethods}
use Rattle.template_example.specs.declared.callables.Label.{Label}
use Rattle.template_example.specs.declared.callables.Link.{Link}
use Rattle.template_example.specs.declared.callables.Own.{Own}
use Rattle.template_example.specs.declared.callables.Own.TheVariants as owns

-- a text behind the prefix
abbrev pub labelled : List ℕ → Option (List ℕ) → Stated
labelled prefix (Some text) = finishes [] (values.text (prefix ++ text))
labelled prefix None = refuses (InvalidOperation ∷ [])

abbrev pub label_says : Label → Says
label_says label view (v ∷ vs) = labelled (string_bytes label.prefix) (text_in v)
label_says label view [] = refuses (MissingArgument ∷ [])

-- a text and the page that it leads to
abbrev pub link_to : Option (List ℕ) → Option (List ℕ) → Result Val Fault
link_to (Some text) (Some to) = Ok (values.text ((((codes "[" ++ text) ++ codes "](") ++ to) ++ codes ")"))
link_to _ _ = Err invalid_operation

abbrev pub link_by : Val → Result Val Fault → Result Val Fault
link_by v (Ok to) = link_to (text_in v) (text_in to)
link_by v (Err fault) = Err fault

abbrev pub link_named : Val → Option Pairs → Result Val Fault
link_named v (Some named) = link_by v (argument (codes "to") named)
link_named v None = Err invalid_operation

abbrev pub linked : List Val → Result Val Fault
linked (v ∷ named ∷ []) = link_named v (keywords named)
linked _ = Err missing_argument

abbrev pub answered : Result Val Fault → Stated
answered (Ok v) = finishes [] v
answered (Err fault) = refuses (kind_of fault ∷ [])

abbrev pub link_says : Link → Says
link_says link view vs = answered (linked vs)

-- a whole number up to the limit
abbrev pub is_cheap : ℤ → Val → Bool
is_cheap limit (int n) = int_le n limit
is_cheap limit _ = false

abbrev pub cheap_says : Cheap → Says
cheap_says cheap view (v ∷ vs) = finishes [] (values.truth (is_cheap cheap.limit v))
cheap_says cheap view [] = refuses (MissingArgument ∷ [])

-- each of them
abbrev pub own_says : Own → Says
own_says (owns.Builtin builtin) = builtin_says builtin
own_says (owns.Label label) = label_says label
own_says (owns.Link link) = link_says link
own_says (owns.Cheap cheap) = cheap_says cheap

-- the filter of a method's name
abbrev pub filter_asked : Val → List ℕ → List Val → Stated
filter_asked v name [] = goes_on [] (filter name (v ∷ []))
filter_asked v name (given ∷ more) = refuses (TooManyArguments ∷ [])

-- what Python's method says, where there is one of that name
abbrev pub said_by : Option PythonMethod → ShopMethods → View → Val → List ℕ → List Val → Stated
said_by None methods view v name vs = filter_asked v name vs
said_by (Some method) methods view v name vs = python.methods_say methods.python view v name vs

abbrev pub methods_say : ShopMethods → View → Val → List ℕ → List Val → Stated
methods_say methods view v name vs = said_by (python.method_of v name) methods view v name vs
