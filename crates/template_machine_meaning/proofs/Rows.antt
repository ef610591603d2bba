-- Worked rows, computed: texts, prices and ends.
use Rattle.std.proofs.Common.{◌++◌, Ok, ◌≡◌, ℕ, suc, ◌+◌, ◌==◌, pos, true, false, List, [], ◌∷◌, None, Some, Option, codes, bytes_eq, refl}
use Rattle.std.specs.Prelude.{if◌then◌else◌, unwrap_or}
use Rattle.template_values_errors.specs.declared.ErrorKind.TheVariants.{WriteFailure, InvalidOperation, UndefinedError, TooManyArguments, UnknownFilter, UnknownTest, UnknownFunction, CannotUnpack, BadInclude, OutOfFuel, UnknownBlock}
use Rattle.template_values_errors.specs.declared.modes.AutoEscape.TheVariants as escapes
use Rattle.template_values_errors.specs.declared.modes.UndefinedBehavior.{UndefinedBehavior}
use Rattle.template_values_errors.specs.declared.modes.UndefinedBehavior.TheVariants.{Lenient, Strict}
use Rattle.template_values_model.specs.Val.{Val, undefined, int, text, map, function, namespace, no_pairs, pairs_more}
use Rattle.template_values_named.specs.Named.{with_all_named}
use Rattle.template_compiler_tree.specs.declared.operators.BinOpKind.TheVariants as operators
use Rattle.template_compiler_tree.specs.declared.operators.CompareOpKind.TheVariants.{Lt, Gt}
use Rattle.std.specs.Fmt as fmt
use Rattle.template_values_forms.specs.Printed as printed_forms
use Rattle.template_compiler_tree.specs.Tree as tree
use Rattle.template_compiler_tree.specs.Tree.{Expression, Expressions, Arguments, Statement, Statements, variable, constant, binary, chain, filtered, tested, attribute, call, list_literal, absent, given, no_expressions, expressions_more, no_arguments, arguments_more, positional, keyword, positional_spread, keyword_spread, no_links, links_more, raw, print, for_loop, if_condition, macro, call_block, block, extends, import, set, set_block, filter_block, no_statements, statements_more}
use Rattle.template_callables.specs.Callables as asked
use Rattle.template_callables.specs.Callables.{filter, lookup, finishes, refuses, goes_on, Says, Callables, no_callables}
use Rattle.template_callables.specs.Joins.{Joins, keeps_name}
use Rattle.template_compiler_process.specs.Drive.{End, ends, faults}
use Rattle.template_compiler_process.specs.Trace.{Run, text_of, price_of}
use Rattle.template_compiler_process.specs.Fuel.{under}
use Rattle.template_machine_meaning.specs.World.{Globals, World, local_at}
use Rattle.template_machine_meaning.specs.OwnFunctions.{own_values}
use Rattle.template_machine_meaning.specs.Meaning.{Standing, Setting, rendered, evaluated}

abbrev number : ℕ → Expression
number n = constant (int (pos n))

abbrev expressions : List Expression → Expressions
expressions [] = no_expressions
expressions (e ∷ es) = expressions_more e (expressions es)

abbrev statements : List Statement → Statements
statements [] = no_statements
statements (s ∷ ss) = statements_more s (statements ss)

abbrev named : List ℕ → List ℕ → Statements → Option Standing
named name other t = if bytes_eq name other then Some (record { name = name; tree = t; escape = escapes.None }) else None

abbrev passing : List Expression → Arguments
passing [] = no_arguments
passing (e ∷ es) = arguments_more (positional e) (passing es)

-- the functions that an environment has by itself, and what else has names
abbrev globals : List (List ℕ × Val) → Globals
globals more = record {
  environment = 0;
  has_own = true;
  named = with_all_named more (with_all_named (own_values 0) []);
}

-- one template, named `b`, stands
abbrev setting : UndefinedBehavior → List (List ℕ × Val) → Statements → Setting
setting mode more b = record { templates = λ name. named (codes "b") name b; joins = keeps_name; globals = globals more; callables = no_callables; limit = 500; undefined = mode }

-- one named `a` is rendered
abbrev run_under : Setting → List Statement → Val → Run World
run_under within ss context = rendered within 0 5 (record { name = codes "a"; tree = statements ss; escape = escapes.None }) context

abbrev run_of : UndefinedBehavior → Statements → List Statement → Val → Run World
run_of mode b ss context = run_under (setting mode [] b) ss context

abbrev only : List ℕ → Val → Val
only name v = map (pairs_more (text name) v no_pairs)

-- `{% for x in [1, 2] %}{{ x }},{% endfor %}`
abbrev loop_row : Run World
loop_row = run_of Lenient no_statements (for_loop (variable (codes "x")) (list_literal (expressions (number 1 ∷ number 2 ∷ []))) absent false (statements (print (variable (codes "x")) ∷ raw (codes ",") ∷ [])) no_statements ∷ []) (map no_pairs)

loop_text : text_of loop_row.items ≡ codes "1,2,"
unfolding printed_forms.level_limit fmt.digits
loop_text = refl

loop_price : price_of loop_row.items ≡ 13
unfolding printed_forms.level_limit fmt.digits
loop_price = refl

-- `{% for x in [1, 2] if x > 1 %}{{ x }}{% endfor %}`
abbrev filtered_row : Run World
filtered_row = run_of Lenient no_statements (for_loop (variable (codes "x")) (list_literal (expressions (number 1 ∷ number 2 ∷ []))) (given (binary operators.Gt (variable (codes "x")) (number 1))) false
    (statements (print (variable (codes "x")) ∷ [])) no_statements ∷ []) (map no_pairs)

filtered_text : text_of filtered_row.items ≡ codes "2"
unfolding printed_forms.level_limit fmt.digits
filtered_text = refl

filtered_price : price_of filtered_row.items ≡ 24
unfolding printed_forms.level_limit fmt.digits
filtered_price = refl

-- `{% set x %}a{{ 1 }}{% endset %}{{ x }}{{ x }}`
abbrev captured_row : Run World
captured_row = run_of Lenient no_statements (set_block (variable (codes "x")) absent (statements (raw (codes "a") ∷ print (number 1) ∷ [])) ∷ print (variable (codes "x")) ∷ print (variable (codes "x")) ∷ []) (map no_pairs)

captured_text : text_of captured_row.items ≡ codes "a1a1"
unfolding printed_forms.level_limit fmt.digits
captured_text = refl

captured_price : price_of captured_row.items ≡ 8
unfolding printed_forms.level_limit fmt.digits
captured_price = refl

-- `{% for i in [1, 2] %}{{ loop.index }}{{ loop.revindex0 }}{{ loop.last }}{{ loop.previtem }},{% endfor %}`
abbrev of_loop : List ℕ → Statement
of_loop name = print (attribute (variable (codes "loop")) name)

abbrev attributes_row : Run World
attributes_row = run_of Lenient no_statements (for_loop (variable (codes "i")) (list_literal (expressions (number 1 ∷ number 2 ∷ []))) absent false
    (statements (of_loop (codes "index") ∷ of_loop (codes "revindex0") ∷ of_loop (codes "last") ∷ of_loop (codes "previtem") ∷ raw (codes ",") ∷ [])) no_statements ∷ []) (map no_pairs)

attributes_text : text_of attributes_row.items ≡ codes "11false,20true1,"
unfolding printed_forms.level_limit fmt.digits
attributes_text = refl

-- `{% for i in range(3) %}{{ loop.cycle("a", "b") }}{{ i }}{% endfor %}`
abbrev range_row : Run World
range_row = run_of Lenient no_statements (for_loop (variable (codes "i")) (call (variable (codes "range")) (passing (number 3 ∷ []))) absent false
    (statements (print (call (attribute (variable (codes "loop")) (codes "cycle")) (passing (constant (text (codes "a")) ∷ constant (text (codes "b")) ∷ []))) ∷ print (variable (codes "i")) ∷ [])) no_statements ∷ []) (map no_pairs)

range_text : text_of range_row.items ≡ codes "a0b1a2"
unfolding printed_forms.level_limit fmt.digits
range_text = refl

-- `{{ dict(a=x).a }}`
abbrev dict_row : Run World
dict_row = run_of Lenient no_statements (print (attribute (call (variable (codes "dict")) (arguments_more (keyword (codes "a") (variable (codes "x"))) no_arguments)) (codes "a")) ∷ []) (only (codes "x") (int (pos 7)))

dict_text : text_of dict_row.items ≡ codes "7"
unfolding printed_forms.level_limit fmt.digits
dict_text = refl

dict_price : price_of dict_row.items ≡ 5
unfolding printed_forms.level_limit fmt.digits
dict_price = refl

-- `{% set ns = namespace(n=0) %}{% for i in [1, 2, 3] %}{% set ns.n = ns.n + i %}{% endfor %}{{ ns.n }}`
abbrev ns_n : Expression
ns_n = attribute (variable (codes "ns")) (codes "n")

abbrev namespace_row : Run World
namespace_row = run_of Lenient no_statements (set (variable (codes "ns")) (call (variable (codes "namespace")) (arguments_more (keyword (codes "n") (number 0)) no_arguments))
    ∷ for_loop (variable (codes "i")) (list_literal (expressions (number 1 ∷ number 2 ∷ number 3 ∷ []))) absent false
    (statements (set ns_n (binary operators.Add ns_n (variable (codes "i"))) ∷ [])) no_statements
    ∷ print ns_n ∷ []) (map no_pairs)

namespace_text : text_of namespace_row.items ≡ codes "6"
unfolding printed_forms.level_limit fmt.digits
namespace_text = refl

namespace_price : price_of namespace_row.items ≡ 34
unfolding printed_forms.level_limit fmt.digits
namespace_price = refl

-- `{{ namespace(1) }}`, and `{{ namespace({}, n=0) }}`
abbrev made_of : Arguments → Run World
made_of args = run_of Lenient no_statements (print (call (variable (codes "namespace")) args) ∷ []) (map no_pairs)

no_map_end : (made_of (passing (number 1 ∷ []))).end ≡ faults (InvalidOperation ∷ [])
unfolding printed_forms.level_limit fmt.digits
no_map_end = refl

both_end : (made_of (arguments_more (positional (constant (map no_pairs))) (arguments_more (keyword (codes "n") (number 0)) no_arguments))).end ≡ faults (TooManyArguments ∷ [])
unfolding printed_forms.level_limit fmt.digits
both_end = refl

-- `{% set x.a = 1 %}`, where x is no namespace
no_namespace_end : (run_of Lenient no_statements (set (attribute (variable (codes "x")) (codes "a")) (number 1) ∷ []) (only (codes "x") (map no_pairs))).end ≡ faults (InvalidOperation ∷ [])
unfolding printed_forms.level_limit fmt.digits
no_namespace_end = refl

-- `{% for i in [1, 1, 2] %}{{ loop.changed(i) }},{% endfor %}`
abbrev changed_row : Run World
changed_row = run_of Lenient no_statements (for_loop (variable (codes "i")) (list_literal (expressions (number 1 ∷ number 1 ∷ number 2 ∷ []))) absent false
    (statements (print (call (attribute (variable (codes "loop")) (codes "changed")) (passing (variable (codes "i") ∷ []))) ∷ raw (codes ",") ∷ [])) no_statements ∷ []) (map no_pairs)

changed_text : text_of changed_row.items ≡ codes "true,false,true,"
unfolding printed_forms.level_limit fmt.digits
changed_text = refl

-- `{% set n = namespace() %}{% for i in [1, 2] %}{% set n.l = loop %}{% endfor %}{{ n.l.index }}{{ n.l.last }}{{ n.l.cycle(1, 2, 3) }}`
abbrev n_l : Expression
n_l = attribute (variable (codes "n")) (codes "l")

abbrev of_n_l : List ℕ → Expression
of_n_l name = attribute n_l name

abbrev made_n : Statement
made_n = set (variable (codes "n")) (call (variable (codes "namespace")) no_arguments)

abbrev kept_loop_row : Run World
kept_loop_row = run_of Lenient no_statements (made_n ∷ for_loop (variable (codes "i")) (list_literal (expressions (number 1 ∷ number 2 ∷ []))) absent false (statements (set n_l (variable (codes "loop")) ∷ [])) no_statements
    ∷ print (of_n_l (codes "index")) ∷ print (of_n_l (codes "last")) ∷ print (call (of_n_l (codes "cycle")) (passing (number 1 ∷ number 2 ∷ number 3 ∷ []))) ∷ []) (map no_pairs)

kept_loop_text : text_of kept_loop_row.items ≡ codes "3false3"
unfolding printed_forms.level_limit fmt.digits
kept_loop_text = refl

-- `{% set n = namespace() %}{% for i in [1] %}{% set n.l = [loop] %}{{ loop.changed(1) }}{% endfor %}{{ n.l[0].changed(1) }}{{ n.l[0].changed(2) }}`
abbrev changed_by : Expression → ℕ → Statement
changed_by e n = print (call (attribute e (codes "changed")) (passing (number n ∷ [])))

abbrev kept_changed_row : Run World
kept_changed_row = run_of Lenient no_statements (made_n ∷ for_loop (variable (codes "i")) (list_literal (expressions (number 1 ∷ []))) absent false
    (statements (set n_l (list_literal (expressions (variable (codes "loop") ∷ []))) ∷ changed_by (variable (codes "loop")) 1 ∷ [])) no_statements
    ∷ changed_by (tree.item n_l (number 0)) 1 ∷ changed_by (tree.item n_l (number 0)) 2 ∷ []) (map no_pairs)

kept_changed_text : text_of kept_changed_row.items ≡ codes "truefalsetrue"
unfolding printed_forms.level_limit fmt.digits
kept_changed_text = refl

-- `{{ dict(**{"a": 1}, a=2).a }}`
abbrev merged_row : Run World
merged_row = run_of Lenient no_statements (print (attribute (call (variable (codes "dict"))
    (arguments_more (keyword_spread (constant (only (codes "a") (int (pos 1))))) (arguments_more (keyword (codes "a") (number 2)) no_arguments))) (codes "a")) ∷ []) (map no_pairs)

merged_text : text_of merged_row.items ≡ codes "2"
unfolding printed_forms.level_limit fmt.digits
merged_text = refl

merged_price : price_of merged_row.items ≡ 5
unfolding printed_forms.level_limit fmt.digits
merged_price = refl

-- `{% for i in range(*[1], 3) %}{{ i }}{% endfor %}`
abbrev spread_row : Run World
spread_row = run_of Lenient no_statements (for_loop (variable (codes "i")) (call (variable (codes "range"))
    (arguments_more (positional_spread (list_literal (expressions (number 1 ∷ [])))) (passing (number 3 ∷ [])))) absent false
    (statements (print (variable (codes "i")) ∷ [])) no_statements ∷ []) (map no_pairs)

spread_text : text_of spread_row.items ≡ codes "12"
unfolding printed_forms.level_limit fmt.digits
spread_text = refl

spread_price : price_of spread_row.items ≡ 14
unfolding printed_forms.level_limit fmt.digits
spread_price = refl

-- `{{ dict(*x, a=1).a }}`, where x is undefined
abbrev nothing_spread : Run World
nothing_spread = run_of Strict no_statements (print (attribute (call (variable (codes "dict"))
    (arguments_more (positional_spread (variable (codes "x"))) (arguments_more (keyword (codes "a") (number 1)) no_arguments))) (codes "a")) ∷ []) (map no_pairs)

nothing_spread_text : text_of nothing_spread.items ≡ codes "1"
unfolding printed_forms.level_limit fmt.digits
nothing_spread_text = refl

-- `{{ dict(**x) }}`, where x is undefined
abbrev nothing_merged : UndefinedBehavior → Run World
nothing_merged mode = run_of mode no_statements (print (call (variable (codes "dict")) (arguments_more (keyword_spread (variable (codes "x"))) no_arguments)) ∷ []) (map no_pairs)

lenient_merged_end : (nothing_merged Lenient).end ≡ faults (InvalidOperation ∷ [])
unfolding printed_forms.level_limit fmt.digits
lenient_merged_end = refl

strict_merged_end : (nothing_merged Strict).end ≡ faults (UndefinedError ∷ [])
unfolding printed_forms.level_limit fmt.digits
strict_merged_end = refl

-- `{{ 1|f }}`, `{% filter f %}a{% endfilter %}` and `{{ 1 is f }}`
unknown_filter_end : (run_of Lenient no_statements (print (filtered (codes "f") (given (number 1)) no_arguments) ∷ []) (map no_pairs)).end ≡ faults (UnknownFilter ∷ [])
unfolding printed_forms.level_limit fmt.digits
unknown_filter_end = refl

unknown_block_end : (run_of Lenient no_statements (filter_block (filtered (codes "f") absent no_arguments) (statements (raw (codes "a") ∷ [])) ∷ []) (map no_pairs)).end ≡ faults (UnknownFilter ∷ [])
unfolding printed_forms.level_limit fmt.digits
unknown_block_end = refl

unknown_test_end : (run_of Lenient no_statements (print (tested (codes "f") (number 1) no_arguments) ∷ []) (map no_pairs)).end ≡ faults (UnknownTest ∷ [])
unfolding printed_forms.level_limit fmt.digits
unknown_test_end = refl

-- `{{ f() }}`
unknown_end : (run_of Lenient no_statements (print (call (variable (codes "f")) no_arguments) ∷ []) (map no_pairs)).end ≡ faults (UnknownFunction ∷ [])
unfolding printed_forms.level_limit fmt.digits
unknown_end = refl

-- `{{ x }}`, where 7 stands under x among the globals
abbrev with_global : List Statement → Val → Run World
with_global ss context = run_under (setting Lenient ((codes "x", int (pos 7)) ∷ []) no_statements) ss context

global_text : text_of (with_global (print (variable (codes "x")) ∷ []) (map no_pairs)).items ≡ codes "7"
unfolding printed_forms.level_limit fmt.digits
global_text = refl

-- and what the context has under x goes before it
context_text : text_of (with_global (print (variable (codes "x")) ∷ []) (only (codes "x") (int (pos 8)))).items ≡ codes "8"
unfolding printed_forms.level_limit fmt.digits
context_text = refl

-- as a local value does: `{{ x }}{% set x = 1 %}{{ x }}`
local_text : text_of (with_global (print (variable (codes "x")) ∷ set (variable (codes "x")) (number 1) ∷ print (variable (codes "x")) ∷ []) (map no_pairs)).items ≡ codes "71"
unfolding printed_forms.level_limit fmt.digits
local_text = refl

-- `{{ x() }}`
number_called_end : (with_global (print (call (variable (codes "x")) no_arguments) ∷ []) (map no_pairs)).end ≡ faults (InvalidOperation ∷ [])
unfolding printed_forms.level_limit fmt.digits
number_called_end = refl

-- an expression over a context that has x, in the state of number 0
abbrev value_over : Val → Expression → End
value_over x e = (evaluated (setting Lenient [] no_statements) 0 e (only (codes "x") x)).end

-- `x`
number_end : value_over (int (pos 7)) (variable (codes "x")) ≡ ends (int (pos 7) ∷ [])
unfolding printed_forms.level_limit fmt.digits
number_end = refl

-- `namespace(a=x)` leaves its state as a map
namespace_end : value_over (int (pos 7)) (call (variable (codes "namespace")) (arguments_more (keyword (codes "a") (variable (codes "x"))) no_arguments)) ≡ ends (only (codes "a") (int (pos 7)) ∷ [])
unfolding printed_forms.level_limit fmt.digits
namespace_end = refl

-- `x`, where it is a namespace of another state
foreign_end : value_over (namespace 1 0) (variable (codes "x")) ≡ faults (InvalidOperation ∷ [])
unfolding printed_forms.level_limit fmt.digits
foreign_end = refl

-- what a user brought: `double` doubles a number; `down` counts down to nothing by asking for itself; `keep` sets t, `kept` gives
-- what is set; `where` gives the name of what runs; `x` asks for what x stands for; `unpack` and `write` state faults
abbrev doubled : Says
doubled view (int (pos n) ∷ []) = finishes [] (int (pos (n + n)))
doubled view vs = finishes [] undefined

abbrev counted_down : Says
counted_down view (int (pos (suc n)) ∷ []) = goes_on [] (filter (codes "down") (int (pos n) ∷ []))
counted_down view vs = finishes [] (text (codes "down"))

abbrev keeping : Says
keeping view (v ∷ vs) = finishes ((codes "t", v) ∷ []) v
keeping view [] = finishes [] undefined

abbrev says_named : List ℕ → Option Says
says_named name =
    if bytes_eq name (codes "double") then Some doubled
    else (if bytes_eq name (codes "down") then Some counted_down
    else (if bytes_eq name (codes "keep") then Some keeping
    else (if bytes_eq name (codes "kept") then Some (λ view vs. finishes [] (unwrap_or (local_at (codes "t") view.temps) undefined))
    else (if bytes_eq name (codes "where") then Some (λ view vs. finishes [] (text view.name))
    else (if bytes_eq name (codes "x") then Some (λ view vs. goes_on [] (lookup (codes "x")))
    else (if bytes_eq name (codes "unpack") then Some (λ view vs. refuses (CannotUnpack ∷ []))
    else (if bytes_eq name (codes "write") then Some (λ view vs. refuses (CannotUnpack ∷ WriteFailure ∷ []))
    else None)))))))

-- they are filters and tests alike; the one function gives its first argument doubled; a method that a value does not have gives its name
abbrev brought : Callables
brought = record {
  filters = says_named;
  tests = says_named;
  functions = λ number. if number == 3 then Some doubled else None;
  methods = Some (λ v name view vs. finishes [] (text name));
  formats = None;
}

-- under a limit of depth; `f` and `g` stand for functions of numbers 3 and 4
abbrev bringing : ℕ → Statements → Setting
bringing limit b = record {
  templates = λ name. named (codes "b") name b;
  joins = keeps_name;
  globals = globals ((codes "f", function 0 3) ∷ (codes "g", function 0 4) ∷ []);
  callables = brought;
  limit = limit;
  undefined = Lenient;
}

abbrev brought_run : List Statement → Run World
brought_run ss = run_under (bringing 500 no_statements) ss (only (codes "x") (int (pos 7)))

abbrev filtering : List ℕ → ℕ → Statement
filtering name n = print (filtered name (given (number n)) no_arguments)

abbrev testing : List ℕ → ℕ → Statement
testing name n = print (tested name (number n) no_arguments)

-- `{{ 3|double }}` and `{{ 1|x }}`
double_text : text_of (brought_run (filtering (codes "double") 3 ∷ filtering (codes "x") 1 ∷ [])).items ≡ codes "67"
unfolding printed_forms.level_limit fmt.digits
double_text = refl

-- `{{ 3 is double }}` and `{{ 0 is double }}`: a test's value is true or false
tested_text : text_of (brought_run (testing (codes "double") 3 ∷ testing (codes "double") 0 ∷ [])).items ≡ codes "truefalse"
unfolding printed_forms.level_limit fmt.digits
tested_text = refl

-- `{{ 1 is unpack }}` and `{{ 1|write }}`: the kinds that a callable states are the run's, whatever they are
stated_end : (brought_run (testing (codes "unpack") 1 ∷ [])).end ≡ faults (CannotUnpack ∷ [])
unfolding printed_forms.level_limit fmt.digits
stated_end = refl

stated_sink_end : (brought_run (filtering (codes "write") 1 ∷ [])).end ≡ faults (CannotUnpack ∷ WriteFailure ∷ [])
unfolding printed_forms.level_limit fmt.digits
stated_sink_end = refl

-- `{{ 2|down }}` and `{{ 3|down }}` under a limit of three levels, of which the template has one
abbrev down_run : ℕ → Run World
down_run n = run_under (bringing 3 no_statements) (filtering (codes "down") n ∷ []) (map no_pairs)

down_text : text_of (down_run 2).items ≡ codes "down"
unfolding printed_forms.level_limit fmt.digits
down_text = refl

too_deep_end : (down_run 3).end ≡ faults (InvalidOperation ∷ [])
unfolding printed_forms.level_limit fmt.digits
too_deep_end = refl

-- `{{ x.m() }}`, where x is a number
method_text : text_of (brought_run (print (call (attribute (variable (codes "x")) (codes "m")) no_arguments) ∷ [])).items ≡ codes "m"
unfolding printed_forms.level_limit fmt.digits
method_text = refl

-- `{{ 1|kept }}{{ 5|keep }}{{ 1|kept }}`
kept_text : text_of (brought_run (filtering (codes "kept") 1 ∷ filtering (codes "keep") 5 ∷ filtering (codes "kept") 1 ∷ [])).items ≡ codes "55"
unfolding printed_forms.level_limit fmt.digits
kept_text = refl

-- `{% for i in [1, 2] %}{% set t = loop|keep %}{% endfor %}{{ (1|kept).index }}{{ (1|kept).last }}{{ (1|kept).cycle(1, 2, 3) }}`
abbrev kept_item : Expression
kept_item = filtered (codes "kept") (given (number 1)) no_arguments

kept_value_text : text_of (brought_run (for_loop (variable (codes "i")) (list_literal (expressions (number 1 ∷ number 2 ∷ []))) absent false
    (statements (set (variable (codes "t")) (filtered (codes "keep") (given (variable (codes "loop"))) no_arguments) ∷ [])) no_statements
    ∷ print (attribute kept_item (codes "index")) ∷ print (attribute kept_item (codes "last"))
    ∷ print (call (attribute kept_item (codes "cycle")) (passing (number 1 ∷ number 2 ∷ number 3 ∷ []))) ∷ [])).items ≡ codes "3false3"
unfolding printed_forms.level_limit fmt.digits
kept_value_text = refl

-- `{{ f(4) }}` and `{{ g(4) }}`: nothing has the number 4
abbrev calling : List ℕ → Statement
calling name = print (call (variable name) (passing (number 4 ∷ [])))

function_text : text_of (brought_run (calling (codes "f") ∷ [])).items ≡ codes "8"
unfolding printed_forms.level_limit fmt.digits
function_text = refl

no_function_end : (brought_run (calling (codes "g") ∷ [])).end ≡ faults (InvalidOperation ∷ [])
unfolding printed_forms.level_limit fmt.digits
no_function_end = refl

-- `{{ 1|where }}{% include "b" %}{{ 1|where }}`, where b is `{{ 1|where }}`
where_text : text_of (run_under (bringing 500 (statements (filtering (codes "where") 1 ∷ [])))
    (filtering (codes "where") 1 ∷ tree.include (constant (text (codes "b"))) false ∷ filtering (codes "where") 1 ∷ []) (map no_pairs)).items ≡ codes "aba"
unfolding printed_forms.level_limit fmt.digits
where_text = refl

-- `1|where`, as an expression alone
where_end : (evaluated (bringing 500 no_statements) 0 (filtered (codes "where") (given (number 1)) no_arguments) (map no_pairs)).end
    ≡ ends (text (codes "<expression>") ∷ [])
unfolding printed_forms.level_limit fmt.digits
where_end = refl

-- `{{ 1 < x < 3 }}`
abbrev chain_row : ℕ → Run World
chain_row x = run_of Lenient no_statements (print (chain (number 1) (links_more Lt (variable (codes "x")) (links_more Lt (number 3) no_links))) ∷ []) (only (codes "x") (int (pos x)))

chain_price : price_of (chain_row 2).items ≡ 6
unfolding printed_forms.level_limit fmt.digits
chain_price = refl

chain_text : text_of (chain_row 2).items ≡ codes "true"
unfolding printed_forms.level_limit fmt.digits
chain_text = refl

short_chain_price : price_of (chain_row 0).items ≡ 5
unfolding printed_forms.level_limit fmt.digits
short_chain_price = refl

-- `{{ 1 > 2 > x }}`
abbrev constant_row : Run World
constant_row = run_of Strict no_statements (print (chain (number 1) (links_more Gt (number 2) (links_more Gt (variable (codes "x")) no_links))) ∷ []) (map no_pairs)

constant_price : price_of constant_row.items ≡ 1
unfolding printed_forms.level_limit fmt.digits
constant_price = refl

constant_text : text_of constant_row.items ≡ codes "false"
unfolding printed_forms.level_limit fmt.digits
constant_text = refl

-- `x{% include "b" %}{{ v }}`, where b is `{% set v = 7 %}`
abbrev include_row : Run World
include_row = run_of Lenient (statements (set (variable (codes "v")) (number 7) ∷ [])) (raw (codes "x") ∷ tree.include (constant (text (codes "b"))) false ∷ print (variable (codes "v")) ∷ []) (map no_pairs)

include_text : text_of include_row.items ≡ codes "x7"
unfolding printed_forms.level_limit fmt.digits
include_text = refl

-- under fuel 2 a step within the include is not paid
abbrev short_include : Run World
short_include = run_of Lenient (statements (raw (codes "x") ∷ [])) (tree.include (constant (text (codes "b"))) false ∷ []) (map no_pairs)

short_include_end : (under (Some 2) short_include).end ≡ faults (BadInclude ∷ OutOfFuel ∷ [])
unfolding printed_forms.level_limit fmt.digits
short_include_end = refl

whole_include_text : text_of (under (Some 3) short_include).items ≡ codes "x"
unfolding printed_forms.level_limit fmt.digits
whole_include_text = refl

-- Blocks, layouts and imports.
abbrev prints : Expression → Statement
prints e = print e

abbrev name_of_template : List ℕ → Expression
name_of_template name = constant (text name)

abbrev a_block : List ℕ → List Statement → Statement
a_block name body = tree.block name false (statements body)

abbrev super_call : Expression
super_call = call (variable (codes "super")) no_arguments

-- templates that stand, by their names
abbrev found_among : List ℕ → List (List ℕ × List Statement) → Option Standing
found_among name [] = None
found_among name (t ∷ ts) = if bytes_eq t.0 name then Some (record { name = t.0; tree = statements t.1; escape = escapes.None }) else found_among name ts

abbrev site : Joins → List (List ℕ × List Statement) → Setting
site joins ts = record { templates = λ name. found_among name ts; joins = joins; globals = globals []; callables = no_callables; limit = 500; undefined = Lenient }

abbrev site_run : Joins → List (List ℕ × List Statement) → List Statement → Val → Run World
site_run joins ts ss context = rendered (site joins ts) 0 9 (record { name = codes "c"; tree = statements ss; escape = escapes.None }) context

abbrev Writes : Run World → List ℕ → ℕ → End → Type 0
Writes r bytes price end = (text_of r.items ≡ bytes) × (price_of r.items ≡ price) × (r.end ≡ end)

-- p = `{% block b %}{% endblock %}`, c = `{% extends "p" %}{% for x in [1] %}{% block b %}{{ x }}{% endblock %}{% endfor %}`, x 5
abbrev loop_with_block : Statement
loop_with_block = for_loop (variable (codes "x")) (list_literal (expressions (number 1 ∷ []))) absent false (statements (a_block (codes "b") (print (variable (codes "x")) ∷ []) ∷ [])) no_statements

overridden : Writes (site_run keeps_name ((codes "p", a_block (codes "b") [] ∷ []) ∷ []) (tree.extends (name_of_template (codes "p")) ∷ loop_with_block ∷ []) (only (codes "x") (int (pos 5)))) (codes "5") 8 (ends [])
unfolding printed_forms.level_limit fmt.digits
overridden = (refl, refl, refl)

-- p = `A{% block b %}x{% endblock %}C`, c = `{% extends "p" %}{% block b %}y{{ super() }}{% endblock %}`
abbrev layout : List Statement
layout = raw (codes "A") ∷ a_block (codes "b") (raw (codes "x") ∷ []) ∷ raw (codes "C") ∷ []

abbrev page : List Statement
page = tree.extends (name_of_template (codes "p")) ∷ a_block (codes "b") (raw (codes "y") ∷ print super_call ∷ []) ∷ []

extended : Writes (site_run keeps_name ((codes "p", layout) ∷ []) page undefined) (codes "AyxC") 7 (ends [])
unfolding printed_forms.level_limit fmt.digits
extended = (refl, refl, refl)

-- p = `{% block b %}{% include "i" %}{% endblock %}`, i = `{{ super() }}`, p is rendered
super_in_an_include : Writes (site_run keeps_name ((codes "i", print super_call ∷ []) ∷ []) (a_block (codes "b") (tree.include (name_of_template (codes "i")) false ∷ []) ∷ []) undefined)
    [] 3 (faults (BadInclude ∷ InvalidOperation ∷ []))
unfolding printed_forms.level_limit fmt.digits
super_in_an_include = (refl, refl, refl)

-- d/x = `{% extends "x" %}`, names are joined to `d/`
abbrev in_folder : Joins
in_folder name parent = Ok (codes "d/" ++ name)

joined_to_itself : Writes (rendered (site in_folder ((codes "d/x", tree.extends (name_of_template (codes "x")) ∷ []) ∷ [])) 0 9 (record { name = codes "d/x"; tree = statements (tree.extends (name_of_template (codes "x")) ∷ []); escape = escapes.None }) undefined)
    [] 0 (faults (InvalidOperation ∷ []))
unfolding printed_forms.level_limit fmt.digits
joined_to_itself = (refl, refl, refl)

-- a = `{% from "b" import v %}{{ v }}`, b empty, v 3
imported_from_outside : Writes (site_run keeps_name ((codes "b", []) ∷ []) (tree.from_import (name_of_template (codes "b")) (tree.imports_more (variable (codes "v")) absent tree.no_imports) ∷ print (variable (codes "v")) ∷ []) (only (codes "v") (int (pos 3))))
    (codes "3") 6 (ends [])
unfolding printed_forms.level_limit fmt.digits
imported_from_outside = (refl, refl, refl)

-- b = `t{% set v = 1 %}{% set _w = 2 %}`, `{% import "b" as m %}{{ m.v }}{{ m }}{{ m._w }}`
a_module : Writes (site_run keeps_name ((codes "b", raw (codes "t") ∷ set (variable (codes "v")) (number 1) ∷ set (variable (codes "_w")) (number 2) ∷ []) ∷ [])
    (tree.import (name_of_template (codes "b")) (variable (codes "m")) ∷ print (attribute (variable (codes "m")) (codes "v")) ∷ print (variable (codes "m")) ∷ print (attribute (variable (codes "m")) (codes "_w")) ∷ []) undefined)
    (codes "1t") 14 (ends [])
unfolding printed_forms.level_limit fmt.digits
a_module = (refl, refl, refl)

-- `{% extends "p" %}{% extends "p" %}`; a = `{% extends "a" %}`; `{% extends 1 %}`
extended_twice : Writes (site_run keeps_name ((codes "p", raw (codes "P") ∷ []) ∷ []) (tree.extends (name_of_template (codes "p")) ∷ tree.extends (name_of_template (codes "p")) ∷ []) undefined) [] 0 (faults (InvalidOperation ∷ []))
unfolding printed_forms.level_limit fmt.digits
extended_twice = (refl, refl, refl)

extends_itself : Writes (site_run keeps_name ((codes "c", tree.extends (name_of_template (codes "c")) ∷ []) ∷ []) (tree.extends (name_of_template (codes "c")) ∷ []) undefined) [] 0 (faults (InvalidOperation ∷ []))
unfolding printed_forms.level_limit fmt.digits
extends_itself = (refl, refl, refl)

-- p = `P`, b = `{% extends "p" %}`, `{% include "b" %}{% include "b" %}`
extended_in_includes : Writes (site_run keeps_name ((codes "b", tree.extends (name_of_template (codes "p")) ∷ []) ∷ (codes "p", raw (codes "P") ∷ []) ∷ []) (tree.include (name_of_template (codes "b")) false ∷ tree.include (name_of_template (codes "b")) false ∷ []) undefined)
    (codes "PP") 4 (ends [])
unfolding printed_forms.level_limit fmt.digits
extended_in_includes = (refl, refl, refl)

-- p = `P`, i = `{% block b %}{{ 1 // 0 }}{% endblock %}`, c = `{% extends "p" %}{% include "i" %}`
dropped_block : Writes (site_run keeps_name ((codes "i", a_block (codes "b") (print (binary operators.FloorDiv (number 1) (number 0)) ∷ []) ∷ []) ∷ (codes "p", raw (codes "P") ∷ []) ∷ []) (tree.extends (name_of_template (codes "p")) ∷ tree.include (name_of_template (codes "i")) false ∷ []) undefined)
    (codes "P") 3 (ends [])
unfolding printed_forms.level_limit fmt.digits
dropped_block = (refl, refl, refl)

-- p = `{% block b %}x{% endblock %}{% include "i" %}`, i = `{% block b %}i{% endblock %}`
own_blocks : Writes (site_run keeps_name ((codes "i", a_block (codes "b") (raw (codes "i") ∷ []) ∷ []) ∷ []) (a_block (codes "b") (raw (codes "x") ∷ []) ∷ tree.include (name_of_template (codes "i")) false ∷ []) undefined)
    (codes "xi") 5 (ends [])
unfolding printed_forms.level_limit fmt.digits
own_blocks = (refl, refl, refl)

-- `{{ self.b() }}` and `{% set t = self.b() %}` and `{% set t = super() %}`
called_by_self : Writes (site_run keeps_name [] (a_block (codes "b") (raw (codes "x") ∷ []) ∷ print (call (attribute (variable (codes "self")) (codes "b")) no_arguments) ∷ set (variable (codes "t")) (call (attribute (variable (codes "self")) (codes "b")) no_arguments) ∷ print (variable (codes "t")) ∷ []) undefined)
    (codes "xxx") 10 (ends [])
unfolding printed_forms.level_limit fmt.digits
called_by_self = (refl, refl, refl)

stored_super : Writes (site_run keeps_name ((codes "p", layout) ∷ []) (tree.extends (name_of_template (codes "p")) ∷ a_block (codes "b") (set (variable (codes "t")) super_call ∷ print (variable (codes "t")) ∷ print (variable (codes "t")) ∷ []) ∷ []) undefined) (codes "AxxC") 11 (ends [])
unfolding printed_forms.level_limit fmt.digits
stored_super = (refl, refl, refl)

-- a required block that nobody gives
lacking : Writes (site_run keeps_name [] (tree.block (codes "b") true (statements []) ∷ []) undefined) [] 1 (faults (InvalidOperation ∷ []))
unfolding printed_forms.level_limit fmt.digits
lacking = (refl, refl, refl)

unknown_block : Writes (site_run keeps_name [] (print (call (attribute (variable (codes "self")) (codes "q")) no_arguments) ∷ []) undefined) [] 1 (faults (UnknownBlock ∷ []))
unfolding printed_forms.level_limit fmt.digits
unknown_block = (refl, refl, refl)

-- macros, closures and rounds that are called again
abbrev chain_less : Expression → Expression
chain_less e = binary operators.Lt e (number 2)

abbrev first_of : List Val → Val
first_of [] = undefined
first_of (v ∷ vs) = v

-- `{% set a = 1 %}{% macro m() %}{{ a }}{% endmacro %}{% set a = 2 %}{{ m() }}`: later stores show in a closure
abbrev later : Run World
later = run_of Lenient no_statements (set (variable (codes "a")) (number 1) ∷ macro (codes "m") (expressions ([])) (expressions ([])) (statements (print (variable (codes "a")) ∷ [])) ∷ set (variable (codes "a")) (number 2) ∷ print (call (variable (codes "m")) (passing ([]))) ∷ []) (map no_pairs)

later-text : text_of later.items ≡ codes "2"
unfolding printed_forms.level_limit fmt.digits
later-text = refl

-- `{% macro w() %}[{{ caller() }}]{% endmacro %}{% call w() %}x{% endcall %}`
abbrev wrapped : Run World
wrapped = run_of Lenient no_statements (macro (codes "w") (expressions ([])) (expressions ([])) (statements (raw (codes "[") ∷ print (call (variable (codes "caller")) (passing ([]))) ∷ raw (codes "]") ∷ [])) ∷ call_block (variable (codes "w")) (passing ([])) (expressions ([])) no_expressions (statements (raw (codes "x") ∷ [])) ∷ []) (map no_pairs)

wrapped-text : text_of wrapped.items ≡ codes "[x]"
unfolding printed_forms.level_limit fmt.digits
wrapped-text = refl

-- `{% set x = 1 %}{% macro m(l) %}{{ l([0]) }}{% endmacro %}{% for i in [2] recursive %}{{ x }}{% if i %}{{ m(loop) }}{% endif %}{% endfor %}`, x 9: rounds that a macro calls
abbrev called_in_macro : Run World
called_in_macro = run_of Lenient no_statements (set (variable (codes "x")) (number 1) ∷ macro (codes "m") (expressions ((variable (codes "l")) ∷ [])) (expressions ([])) (statements (print (call (variable (codes "l")) (passing ((list_literal (expressions ((number 0) ∷ []))) ∷ []))) ∷ [])) ∷ for_loop (variable (codes "i")) (list_literal (expressions ((number 2) ∷ []))) absent true (statements (print (variable (codes "x")) ∷ if_condition (variable (codes "i")) (statements (print (call (variable (codes "m")) (passing ((variable (codes "loop")) ∷ []))) ∷ [])) no_statements ∷ [])) no_statements ∷ []) (only (codes "x") (int (pos 9)))

called_in_macro-text : text_of called_in_macro.items ≡ codes "19"
unfolding printed_forms.level_limit fmt.digits
called_in_macro-text = refl

called_in_macro-price : price_of called_in_macro.items ≡ 26
unfolding printed_forms.level_limit fmt.digits
called_in_macro-price = refl

-- `{% macro m(a, b=a) %}{{ b }}{% endmacro %}{{ m(1) }}`, a 7: a default is evaluated before the arguments in front of it are stored
abbrev defaulted : Run World
defaulted = run_of Lenient no_statements (macro (codes "m") (expressions ((variable (codes "a")) ∷ (variable (codes "b")) ∷ [])) (expressions ((variable (codes "a")) ∷ [])) (statements (print (variable (codes "b")) ∷ [])) ∷ print (call (variable (codes "m")) (passing ((number 1) ∷ []))) ∷ []) (only (codes "a") (int (pos 7)))

defaulted-text : text_of defaulted.items ≡ codes "7"
unfolding printed_forms.level_limit fmt.digits
defaulted-text = refl

defaulted-price : price_of defaulted.items ≡ 13
unfolding printed_forms.level_limit fmt.digits
defaulted-price = refl

-- `{% macro m() %}{{ m() }}{% endmacro %}{{ m() }}`, limit 20
abbrev endless : Run World
endless = run_under (record (setting Lenient [] no_statements) { limit = 20 }) (macro (codes "m") (expressions ([])) (expressions ([])) (statements (print (call (variable (codes "m")) (passing ([]))) ∷ [])) ∷ print (call (variable (codes "m")) (passing ([]))) ∷ []) (map no_pairs)

endless-text : text_of endless.items ≡ codes ""
unfolding printed_forms.level_limit fmt.digits
endless-text = refl

endless-end : endless.end ≡ faults (InvalidOperation ∷ [])
unfolding printed_forms.level_limit fmt.digits
endless-end = refl

-- `{% macro m(a) %}<{{ a }}>{% endmacro %}{{ m(1) }}{{ m("x") }}`
abbrev twice_called : Run World
twice_called = run_of Lenient no_statements (macro (codes "m") (expressions ((variable (codes "a")) ∷ [])) (expressions ([])) (statements (raw (codes "<") ∷ print (variable (codes "a")) ∷ raw (codes ">") ∷ [])) ∷ print (call (variable (codes "m")) (passing ((number 1) ∷ []))) ∷ print (call (variable (codes "m")) (passing ((constant (text (codes "x"))) ∷ []))) ∷ []) (map no_pairs)

twice_called-text : text_of twice_called.items ≡ codes "<1><x>"
unfolding printed_forms.level_limit fmt.digits
twice_called-text = refl

twice_called-price : price_of twice_called.items ≡ 17
unfolding printed_forms.level_limit fmt.digits
twice_called-price = refl

-- `{% for n in [[[]], []] recursive %}({{ loop(n) }}){% endfor %}`
abbrev nested : Run World
nested = run_of Lenient no_statements (for_loop (variable (codes "n")) (list_literal (expressions ((list_literal (expressions ((list_literal (expressions ([]))) ∷ []))) ∷ (list_literal (expressions ([]))) ∷ []))) absent true (statements (raw (codes "(") ∷ print (call (variable (codes "loop")) (passing ((variable (codes "n")) ∷ []))) ∷ raw (codes ")") ∷ [])) no_statements ∷ []) (map no_pairs)

nested-text : text_of nested.items ≡ codes "(())()"
unfolding printed_forms.level_limit fmt.digits
nested-text = refl

-- `{% macro m(a) %}{% endmacro %}{{ m(1, 2) }}`
abbrev toomany : Run World
toomany = run_of Lenient no_statements (macro (codes "m") (expressions ((variable (codes "a")) ∷ [])) (expressions ([])) (statements ([])) ∷ print (call (variable (codes "m")) (passing ((number 1) ∷ (number 2) ∷ []))) ∷ []) (map no_pairs)

toomany-text : text_of toomany.items ≡ codes ""
unfolding printed_forms.level_limit fmt.digits
toomany-text = refl

toomany-end : toomany.end ≡ faults (TooManyArguments ∷ [])
unfolding printed_forms.level_limit fmt.digits
toomany-end = refl

-- `{% macro m(a) %}{% endmacro %}{{ m(b=1) }}`
abbrev unknown : Run World
unknown = run_of Lenient no_statements (macro (codes "m") (expressions ((variable (codes "a")) ∷ [])) (expressions ([])) (statements ([])) ∷ print (call (variable (codes "m")) (arguments_more (keyword (codes "b") (number 1)) no_arguments)) ∷ []) (map no_pairs)

unknown-text : text_of unknown.items ≡ codes ""
unfolding printed_forms.level_limit fmt.digits
unknown-text = refl

unknown-end : unknown.end ≡ faults (TooManyArguments ∷ [])
unfolding printed_forms.level_limit fmt.digits
unknown-end = refl

-- `{% macro m(a) %}{{ a }}{% endmacro %}{{ m(a=1) }}`
abbrev by_keyword : Run World
by_keyword = run_of Lenient no_statements (macro (codes "m") (expressions ((variable (codes "a")) ∷ [])) (expressions ([])) (statements (print (variable (codes "a")) ∷ [])) ∷ print (call (variable (codes "m")) (arguments_more (keyword (codes "a") (number 1)) no_arguments)) ∷ []) (map no_pairs)

by_keyword-text : text_of by_keyword.items ≡ codes "1"
unfolding printed_forms.level_limit fmt.digits
by_keyword-text = refl

-- `{% for i in [2] recursive %}{{ i }}{% if i %}{% include "b" %}{% endif %}{% endfor %}`, b = `{{ loop([0]) }}`: rounds that an include calls
abbrev elsewhere : Run World
elsewhere = run_of Lenient (statements (print (call (variable (codes "loop")) (passing ((list_literal (expressions ((number 0) ∷ []))) ∷ []))) ∷ [])) (for_loop (variable (codes "i")) (list_literal (expressions ((number 2) ∷ []))) absent true (statements (print (variable (codes "i")) ∷ if_condition (variable (codes "i")) (statements (tree.include (constant (text (codes "b"))) false ∷ [])) no_statements ∷ [])) no_statements ∷ []) (map no_pairs)

elsewhere-text : text_of elsewhere.items ≡ codes "20"
unfolding printed_forms.level_limit fmt.digits
elsewhere-text = refl

-- `{% macro m() %}a{% endmacro %}{{ m() }}`, limit 7
abbrev roomy : Run World
roomy = run_under (record (setting Lenient [] no_statements) { limit = 7 }) (macro (codes "m") (expressions ([])) (expressions ([])) (statements (raw (codes "a") ∷ [])) ∷ print (call (variable (codes "m")) (passing ([]))) ∷ []) (map no_pairs)

roomy-text : text_of roomy.items ≡ codes "a"
unfolding printed_forms.level_limit fmt.digits
roomy-text = refl

-- limit 6
abbrev cramped : Run World
cramped = run_under (record (setting Lenient [] no_statements) { limit = 6 }) (macro (codes "m") (expressions ([])) (expressions ([])) (statements (raw (codes "a") ∷ [])) ∷ print (call (variable (codes "m")) (passing ([]))) ∷ []) (map no_pairs)

cramped-text : text_of cramped.items ≡ codes ""
unfolding printed_forms.level_limit fmt.digits
cramped-text = refl

cramped-end : cramped.end ≡ faults (InvalidOperation ∷ [])
unfolding printed_forms.level_limit fmt.digits
cramped-end = refl

-- `{% macro m() %}a{% extends "b" %}b{% endmacro %}[{{ m() }}]`: no parent runs in a macro
abbrev extending : Run World
extending = run_of Lenient (statements (raw (codes "P") ∷ [])) (macro (codes "m") (expressions ([])) (expressions ([])) (statements (raw (codes "a") ∷ extends (constant (text (codes "b"))) ∷ raw (codes "b") ∷ [])) ∷ raw (codes "[") ∷ print (call (variable (codes "m")) (passing ([]))) ∷ raw (codes "]") ∷ []) (map no_pairs)

extending-text : text_of extending.items ≡ codes "[a]"
unfolding printed_forms.level_limit fmt.digits
extending-text = refl

-- `{% set x = 1 %}{% macro m() %}{% set x = 5 %}{% endmacro %}{{ m() }}{{ x }}`
abbrev own_scope : Run World
own_scope = run_of Lenient no_statements (set (variable (codes "x")) (number 1) ∷ macro (codes "m") (expressions ([])) (expressions ([])) (statements (set (variable (codes "x")) (number 5) ∷ [])) ∷ print (call (variable (codes "m")) (passing ([]))) ∷ print (variable (codes "x")) ∷ []) (map no_pairs)

own_scope-text : text_of own_scope.items ≡ codes "1"
unfolding printed_forms.level_limit fmt.digits
own_scope-text = refl

-- `{% macro m() %}{% include "b" %}{% endmacro %}{% set y = 3 %}{{ m() }}`, b = `{{ y }}`: the caller's frames are not seen
abbrev hidden : Run World
hidden = run_of Lenient (statements (print (variable (codes "y")) ∷ [])) (macro (codes "m") (expressions ([])) (expressions ([])) (statements (tree.include (constant (text (codes "b"))) false ∷ [])) ∷ set (variable (codes "y")) (number 3) ∷ print (call (variable (codes "m")) (passing ([]))) ∷ []) (map no_pairs)

hidden-text : text_of hidden.items ≡ codes ""
unfolding printed_forms.level_limit fmt.digits
hidden-text = refl

-- but the context is, y 4
abbrev base : Run World
base = run_of Lenient (statements (print (variable (codes "y")) ∷ [])) (macro (codes "m") (expressions ([])) (expressions ([])) (statements (tree.include (constant (text (codes "b"))) false ∷ [])) ∷ print (call (variable (codes "m")) (passing ([]))) ∷ []) (only (codes "y") (int (pos 4)))

base-text : text_of base.items ≡ codes "4"
unfolding printed_forms.level_limit fmt.digits
base-text = refl

-- `{% macro m(a, b) %}{{ caller() }}{% endmacro %}{{ m.name }}{{ m.arguments }}{{ m.caller }}{{ m }}`
abbrev attributes : Run World
attributes = run_of Lenient no_statements (macro (codes "m") (expressions ((variable (codes "a")) ∷ (variable (codes "b")) ∷ [])) (expressions ([])) (statements (print (call (variable (codes "caller")) (passing ([]))) ∷ [])) ∷ print (attribute (variable (codes "m")) (codes "name")) ∷ print (attribute (variable (codes "m")) (codes "arguments")) ∷ print (attribute (variable (codes "m")) (codes "caller")) ∷ print (variable (codes "m")) ∷ []) (map no_pairs)

attributes-text : text_of attributes.items ≡ codes "m[\"a\", \"b\"]true<macro m>"
unfolding printed_forms.level_limit fmt.digits
attributes-text = refl

-- `{% import "b" as l %}{{ l.m() }}`, b = `{% macro m() %}{{ a }}{% endmacro %}{% set a = 4 %}`
abbrev imported : Run World
imported = run_of Lenient (statements (macro (codes "m") (expressions ([])) (expressions ([])) (statements (print (variable (codes "a")) ∷ [])) ∷ set (variable (codes "a")) (number 4) ∷ [])) (import (constant (text (codes "b"))) (variable (codes "l")) ∷ print (call (attribute (variable (codes "l")) (codes "m")) (passing ([]))) ∷ []) (map no_pairs)

imported-text : text_of imported.items ≡ codes "4"
unfolding printed_forms.level_limit fmt.digits
imported-text = refl

-- `{% set ns = namespace() %}{% for i in [1, 2] %}{% macro m() %}{{ loop.index }}{% endmacro %}{% set ns.m = m %}{% endfor %}{{ ns.m() }}`: a closure keeps a loop known
abbrev kept_loop : Run World
kept_loop = run_of Lenient no_statements (set (variable (codes "ns")) (call (variable (codes "namespace")) (passing ([]))) ∷ for_loop (variable (codes "i")) (list_literal (expressions ((number 1) ∷ (number 2) ∷ []))) absent false (statements (macro (codes "m") (expressions ([])) (expressions ([])) (statements (print (attribute (variable (codes "loop")) (codes "index")) ∷ [])) ∷ set (attribute (variable (codes "ns")) (codes "m")) (variable (codes "m")) ∷ [])) no_statements ∷ print (call (attribute (variable (codes "ns")) (codes "m")) (passing ([]))) ∷ []) (map no_pairs)

kept_loop-text : text_of kept_loop.items ≡ codes "3"
unfolding printed_forms.level_limit fmt.digits
kept_loop-text = refl

-- `{% set a = 1 %}{% macro m() %}{{ a }}{% endmacro %}{% include "b" %}{{ m() }}{{ a }}`, b = `{% set a = 2 %}`: what an include stores goes into no closure of its caller
abbrev putaside : Run World
putaside = run_of Lenient (statements (set (variable (codes "a")) (number 2) ∷ [])) (set (variable (codes "a")) (number 1) ∷ macro (codes "m") (expressions ([])) (expressions ([])) (statements (print (variable (codes "a")) ∷ [])) ∷ tree.include (constant (text (codes "b"))) false ∷ print (call (variable (codes "m")) (passing ([]))) ∷ print (variable (codes "a")) ∷ []) (map no_pairs)

putaside-text : text_of putaside.items ≡ codes "12"
unfolding printed_forms.level_limit fmt.digits
putaside-text = refl

-- `{% for i in [[1]] recursive %}{{ loop.depth }}{% if loop.depth < 2 %}{{ loop(i) }}{% endif %}{% endfor %}`
abbrev depths : Run World
depths = run_of Lenient no_statements (for_loop (variable (codes "i")) (list_literal (expressions ((list_literal (expressions ((number 1) ∷ []))) ∷ []))) absent true (statements (print (attribute (variable (codes "loop")) (codes "depth")) ∷ if_condition (chain_less (attribute (variable (codes "loop")) (codes "depth"))) (statements (print (call (variable (codes "loop")) (passing ((variable (codes "i")) ∷ []))) ∷ [])) no_statements ∷ [])) no_statements ∷ []) (map no_pairs)

depths-text : text_of depths.items ≡ codes "12"
unfolding printed_forms.level_limit fmt.digits
depths-text = refl

-- `{% for i in [1] %}{{ loop(i) }}{% endfor %}`
abbrev notagain : Run World
notagain = run_of Lenient no_statements (for_loop (variable (codes "i")) (list_literal (expressions ((number 1) ∷ []))) absent false (statements (print (call (variable (codes "loop")) (passing ((variable (codes "i")) ∷ []))) ∷ [])) no_statements ∷ []) (map no_pairs)

notagain-text : text_of notagain.items ≡ codes ""
unfolding printed_forms.level_limit fmt.digits
notagain-text = refl

notagain-end : notagain.end ≡ faults (InvalidOperation ∷ [])
unfolding printed_forms.level_limit fmt.digits
notagain-end = refl

-- `{% for i in [1] recursive %}{{ loop(i) }}{% endfor %}`
abbrev cause : Run World
cause = run_of Lenient no_statements (for_loop (variable (codes "i")) (list_literal (expressions ((number 1) ∷ []))) absent true (statements (print (call (variable (codes "loop")) (passing ((variable (codes "i")) ∷ []))) ∷ [])) no_statements ∷ []) (map no_pairs)

cause-text : text_of cause.items ≡ codes ""
unfolding printed_forms.level_limit fmt.digits
cause-text = refl

cause-end : cause.end ≡ faults (InvalidOperation ∷ InvalidOperation ∷ [])
unfolding printed_forms.level_limit fmt.digits
cause-end = refl

-- `{{ loop(x) }}`
abbrev noloop : Run World
noloop = run_of Lenient no_statements (print (call (variable (codes "loop")) (passing ((variable (codes "x")) ∷ []))) ∷ []) (map no_pairs)

noloop-text : text_of noloop.items ≡ codes ""
unfolding printed_forms.level_limit fmt.digits
noloop-text = refl

noloop-end : noloop.end ≡ faults (UnknownFunction ∷ [])
unfolding printed_forms.level_limit fmt.digits
noloop-end = refl

-- `{% for i in [1] recursive %}a{% set l = loop %}{% set t = l([]) %}b{{ t }}{% endfor %}`: by a name the text is a value
abbrev by_name : Run World
by_name = run_of Lenient no_statements (for_loop (variable (codes "i")) (list_literal (expressions ((number 1) ∷ []))) absent true (statements (raw (codes "a") ∷ set (variable (codes "l")) (variable (codes "loop")) ∷ set (variable (codes "t")) (call (variable (codes "l")) (passing ((list_literal (expressions ([]))) ∷ []))) ∷ raw (codes "b") ∷ print (variable (codes "t")) ∷ [])) no_statements ∷ []) (map no_pairs)

by_name-text : text_of by_name.items ≡ codes "ab"
unfolding printed_forms.level_limit fmt.digits
by_name-text = refl

-- `{% for i in [[0]] recursive %}<{{ i }}>{% if i %}{% set l = loop %}{% set t = l(i) %}{{ t }}{{ t }}{% endif %}{% endfor %}`
abbrev rounds_text : Run World
rounds_text = run_of Lenient no_statements (for_loop (variable (codes "i")) (list_literal (expressions ((list_literal (expressions ((number 0) ∷ []))) ∷ []))) absent true (statements (raw (codes "<") ∷ print (variable (codes "i")) ∷ raw (codes ">") ∷ if_condition (variable (codes "i")) (statements (set (variable (codes "l")) (variable (codes "loop")) ∷ set (variable (codes "t")) (call (variable (codes "l")) (passing ((variable (codes "i")) ∷ []))) ∷ print (variable (codes "t")) ∷ print (variable (codes "t")) ∷ [])) no_statements ∷ [])) no_statements ∷ []) (map no_pairs)

rounds_text-text : text_of rounds_text.items ≡ codes "<[0]><0><0>"
unfolding printed_forms.level_limit fmt.digits
rounds_text-text = refl

-- `{% macro m(a) %}<{{ a }}>{% endmacro %}{{ m|f }}`, where f asks that its value is called
abbrev further_call : Run World
further_call = run_under (record (setting Lenient [] no_statements) { callables = (record no_callables { filters = λ name. Some (λ view vs. goes_on [] (asked.call (first_of vs) [])) }) }) (macro (codes "m") (expressions ((variable (codes "a")) ∷ [])) (expressions ([])) (statements (raw (codes "<") ∷ print (variable (codes "a")) ∷ raw (codes ">") ∷ [])) ∷ print (filtered (codes "f") (given (variable (codes "m"))) no_arguments) ∷ []) (map no_pairs)

further_call-text : text_of further_call.items ≡ codes "<>"
unfolding printed_forms.level_limit fmt.digits
further_call-text = refl

-- `{% macro m(a) %}{{ a }}{% endmacro %}{{ 0 is t }}{{ "" is t }}`, where t asks for m by its name: the text is taken for true or false
abbrev further_macro : Run World
further_macro = run_under (record (setting Lenient [] no_statements) { callables = (record no_callables { tests = λ name. Some (λ view vs. goes_on [] (asked.call_macro (codes "m") vs)) }) }) (macro (codes "m") (expressions ((variable (codes "a")) ∷ [])) (expressions ([])) (statements (print (variable (codes "a")) ∷ [])) ∷ print (tested (codes "t") (number 0) no_arguments) ∷ print (tested (codes "t") (constant (text (codes ""))) no_arguments) ∷ []) (map no_pairs)

further_macro-text : text_of further_macro.items ≡ codes "truefalse"
unfolding printed_forms.level_limit fmt.digits
further_macro-text = refl

-- a call that is pending counts as a level: limit 8
abbrev further_room : Run World
further_room = run_under (record (setting Lenient [] no_statements) { limit = 8; callables = (record no_callables { filters = λ name. Some (λ view vs. goes_on [] (asked.call (first_of vs) [])) }) }) (macro (codes "m") (expressions ([])) (expressions ([])) (statements (raw (codes "a") ∷ [])) ∷ print (filtered (codes "f") (given (variable (codes "m"))) no_arguments) ∷ []) (map no_pairs)

further_room-text : text_of further_room.items ≡ codes "a"
unfolding printed_forms.level_limit fmt.digits
further_room-text = refl

-- `{% macro m() %}a{% endmacro %}{{ m() }}`, limit 7
abbrev further_cramped : Run World
further_cramped = run_under (record (setting Lenient [] no_statements) { limit = 7; callables = (record no_callables { filters = λ name. Some (λ view vs. goes_on [] (asked.call (first_of vs) [])) }) }) (macro (codes "m") (expressions ([])) (expressions ([])) (statements (raw (codes "a") ∷ [])) ∷ print (filtered (codes "f") (given (variable (codes "m"))) no_arguments) ∷ []) (map no_pairs)

further_cramped-text : text_of further_cramped.items ≡ codes ""
unfolding printed_forms.level_limit fmt.digits
further_cramped-text = refl

further_cramped-end : further_cramped.end ≡ faults (InvalidOperation ∷ [])
unfolding printed_forms.level_limit fmt.digits
further_cramped-end = refl

-- `{% block b %}x{% endblock %}{{ 1|f }}`, where f asks for the block's text
abbrev further_block : Run World
further_block = run_under (record (setting Lenient [] no_statements) { callables = (record no_callables { filters = λ name. Some (λ view vs. goes_on [] (asked.block (codes "b"))) }) }) (block (codes "b") false (statements (raw (codes "x") ∷ [])) ∷ print (filtered (codes "f") (given (number 1)) no_arguments) ∷ []) (map no_pairs)

further_block-text : text_of further_block.items ≡ codes "xx"
unfolding printed_forms.level_limit fmt.digits
further_block-text = refl

-- `{% macro m(l, y) %}{{ l([0]) }}{% endmacro %}{% for i in [2] recursive %}{{ loop.depth0 }}{% if i %}{{ m(loop, 5) }}{% endif %}{% endfor %}`: of its caller's loops a macro sees none
abbrev again_in_macro : Run World
again_in_macro = run_of Lenient no_statements (macro (codes "m") (expressions ((variable (codes "l")) ∷ (variable (codes "y")) ∷ [])) (expressions ([])) (statements (print (call (variable (codes "l")) (passing ((list_literal (expressions ((number 0) ∷ []))) ∷ []))) ∷ [])) ∷ for_loop (variable (codes "i")) (list_literal (expressions ((number 2) ∷ []))) absent true (statements (print (attribute (variable (codes "loop")) (codes "depth0")) ∷ if_condition (variable (codes "i")) (statements (print (call (variable (codes "m")) (passing ((variable (codes "loop")) ∷ (number 5) ∷ []))) ∷ [])) no_statements ∷ [])) no_statements ∷ []) (map no_pairs)

again_in_macro-text : text_of again_in_macro.items ≡ codes "00"
unfolding printed_forms.level_limit fmt.digits
again_in_macro-text = refl
