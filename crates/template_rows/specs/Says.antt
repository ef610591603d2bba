-- What is answered, for each view and arguments.
use Rattle.std.specs.Prelude.{ℕ, ℤ, pos, ◌-ℤ◌, int_le, ◌-◌, Bool, true, false, List, [], ◌∷◌, length, slice_get, Option, None, Some, option_to_list, unwrap_or, Result, Ok, Err, if◌then◌else◌, codes, string_bytes}
use Rattle.std.specs.Ordering.{eq_by_cmp}
use Rattle.template_values_errors.specs.declared.ErrorKind.TheVariants.{InvalidOperation, MissingArgument}
use Rattle.template_values_errors.specs.declared.modes.AutoEscape.{AutoEscape}
use Rattle.template_values_errors.specs.declared.modes.AutoEscape.TheVariants as escapes
use Rattle.template_values_errors.specs.declared.modes.UndefinedBehavior.{UndefinedBehavior}
use Rattle.template_values_errors.specs.declared.modes.UndefinedBehavior.TheVariants as behaviors
use Rattle.template_values_model.specs.Fault.{Fault, kind_of, missing_argument}
use Rattle.template_values_model.specs.Val as values
use Rattle.template_values_model.specs.Val.{Val, Pairs, int}
use Rattle.template_values_core.specs.Answers.{text_in}
use Rattle.template_values_core.specs.Order.{val_cmp}
use Rattle.template_values_core.specs.Reads.{whole_number}
use Rattle.template_values_named.specs.Keywords.{keywords, argument}
use Rattle.template_values_named.specs.Named.{local_at}
use Rattle.template_values_operators.specs.Kinds.{list_made}
use Rattle.template_values_operators.specs.Products.{product_of}
use Rattle.template_callables.specs.Callables.{View, Stated, finishes, refuses, goes_on, call, filter, test, lookup, call_macro, block}
use Rattle.template_rows.specs.declared.what.What.{What}
use Rattle.template_rows.specs.declared.what.What.TheVariants as whats
use Rattle.template_rows.specs.declared.what.Seen.{Seen}
use Rattle.template_rows.specs.declared.what.Seen.TheVariants as seens
use Rattle.template_rows.specs.declared.what.First.{First}
use Rattle.template_rows.specs.declared.what.First.TheVariants as firsts
use Rattle.template_rows.specs.declared.what.Named.{Named}
use Rattle.template_rows.specs.declared.what.Named.TheVariants as nameds

-- a value, or a fault
abbrev pub answered : Result Val Fault → Stated
answered (Ok v) = finishes [] v
answered (Err fault) = refuses (kind_of fault ∷ [])

abbrev pub missing : Stated
missing = refuses (MissingArgument ∷ [])

abbrev pub refused : Stated
refused = refuses (InvalidOperation ∷ [])

-- what is there, or the undefined value
abbrev pub given : Option Val → Stated
given o = finishes [] (unwrap_or o values.undefined)

-- the keyword argument of a name, of the last argument
abbrev pub keyword_of : List ℕ → Option Pairs → Result Val Fault
keyword_of name (Some ps) = argument name ps
keyword_of name None = Err missing_argument

abbrev pub keyword_in : List ℕ → Option Val → Result Val Fault
keyword_in name (Some v) = keyword_of name (keywords v)
keyword_in name None = Err missing_argument

abbrev pub keyword_at : List ℕ → List Val → Result Val Fault
keyword_at name vs = keyword_in name (slice_get vs (length vs - 1))

-- what is seen of a run
abbrev pub escape_name : AutoEscape → List ℕ
escape_name escapes.None = codes "None"
escape_name escapes.Html = codes "Html"
escape_name escapes.Json = codes "Json"
escape_name (escapes.Custom number) = codes "Custom"

abbrev pub behavior_name : UndefinedBehavior → List ℕ
behavior_name behaviors.Lenient = codes "Lenient"
behavior_name behaviors.Chainable = codes "Chainable"
behavior_name behaviors.SemiStrict = codes "SemiStrict"
behavior_name behaviors.Strict = codes "Strict"

abbrev pub block_name : Option (List ℕ) → Val
block_name (Some name) = values.text name
block_name None = values.none

abbrev pub seen_says : Seen → View → Stated
seen_says seens.Template view = finishes [] (values.text view.name)
seen_says seens.Escape view = finishes [] (values.text (escape_name view.escape))
seen_says seens.Undefined view = finishes [] (values.text (behavior_name view.undefined))
seen_says seens.Block view = finishes [] (block_name view.block)

-- the value is among the temps under the name from then on, and what was there before is given
abbrev pub set : List ℕ → View → Val → Stated
set name view v = finishes ((name, v) ∷ []) (unwrap_or (local_at name view.temps) values.undefined)

abbrev pub set_first : List ℕ → View → List Val → Stated
set_first name view [] = missing
set_first name view (v ∷ vs) = set name view v

-- what is done by a name, with the other arguments
abbrev pub name_says : Named → View → List ℕ → List Val → Stated
name_says nameds.Filter view name vs = goes_on [] (filter name vs)
name_says nameds.Test view name vs = goes_on [] (test name vs)
name_says nameds.Lookup view name vs = goes_on [] (lookup name)
name_says nameds.Macro view name vs = goes_on [] (call_macro name vs)
name_says nameds.Get view name vs = given (local_at name view.temps)
name_says nameds.Set view name vs = set_first name view vs

abbrev pub by_name : Named → View → Option (List ℕ) → List Val → Stated
by_name named view (Some name) vs = name_says named view name vs
by_name named view None vs = missing

-- a text as one that is written without escapes
abbrev pub safe : Option (List ℕ) → Stated
safe (Some s) = finishes [] (values.safe_text s)
safe None = refused

-- whether the first of the others is equal
abbrev pub same : Val → List Val → Stated
same v [] = missing
same v (other ∷ others) = finishes [] (values.truth (eq_by_cmp val_cmp v other))

-- a number down to 0, by the filter of the name
abbrev pub down_from : List ℕ → Option ℤ → Stated
down_from name (Some n) = if int_le n (pos 0) then finishes [] (int n) else goes_on [] (filter name (int (n -ℤ pos 1) ∷ []))
down_from name None = refused

abbrev pub first_says : First → View → Val → List Val → Stated
first_says firsts.Itself view v vs = finishes [] v
first_says firsts.Safe view v vs = safe (text_in v)
first_says firsts.Same view v vs = same v vs
first_says (firsts.Times by) view v vs = answered (product_of v by)
first_says (firsts.Down name) view v vs = down_from (string_bytes name) (whole_number v)
first_says (firsts.Temp name) view v vs = set (string_bytes name) view v
first_says firsts.Call view v vs = goes_on [] (call v vs)
first_says (firsts.Name named) view v vs = by_name named view (text_in v) vs

abbrev pub to_first : First → View → List Val → Stated
to_first first view [] = missing
to_first first view (v ∷ vs) = first_says first view v vs

abbrev pub what_says : What → View → List Val → Stated
what_says whats.Arguments view vs = answered (list_made vs)
what_says (whats.At place) view vs = given (slice_get vs place)
what_says (whats.Keyword name) view vs = answered (keyword_at (string_bytes name) vs)
what_says (whats.Seen seen) view vs = seen_says seen view
what_says (whats.Gives v) view vs = finishes [] v
what_says (whats.Fails kind cause) view vs = refuses (kind ∷ option_to_list cause)
what_says (whats.Filter name) view vs = goes_on [] (filter (string_bytes name) vs)
what_says (whats.Test name) view vs = goes_on [] (test (string_bytes name) vs)
what_says (whats.Lookup name) view vs = goes_on [] (lookup (string_bytes name))
what_says (whats.Macro name) view vs = goes_on [] (call_macro (string_bytes name) vs)
what_says (whats.Rendered name) view vs = goes_on [] (block (string_bytes name))
what_says (whats.Get name) view vs = given (local_at (string_bytes name) view.temps)
what_says (whats.First first) view vs = to_first first view vs
