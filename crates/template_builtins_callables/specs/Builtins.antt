-- The builtin filters and tests, by name and by subject.
use Rattle.std.specs.Prelude.{ℕ, Bool, false, List, [], map, Option, None, Some, is_some, Result, Ok, Err}
use Rattle.template_values_errors.specs.declared.ErrorKind.{ErrorKind}
use Rattle.template_values_errors.specs.declared.ErrorKind.TheVariants.{UnknownFilter, UnknownTest}
use Rattle.template_values_model.specs.Val.{Val, truth}
use Rattle.template_values_core.specs.Answers.{text_in}
use Rattle.template_callables.specs.Callables.{View}
use Rattle.template_builtins_arguments.specs.Answers.{Made, then, refused}
use Rattle.template_builtins_arguments.specs.Arguments.{arguments}
use Rattle.template_builtins_tests.specs.Tests.{value_tested}
use Rattle.template_builtins_callables.specs.Names.{named}
use Rattle.template_builtins_callables.specs.declared.names.TheConstants.{FILTERS, TESTS}
use Rattle.template_builtins_callables.specs.declared.filter.Filter.{Filter}
use Rattle.template_builtins_callables.specs.declared.test.Test.{Test}
use Rattle.template_builtins_callables.specs.declared.test.Test.TheVariants as tests

-- the filter and the test of a name
unfoldable pub filter_named : List ℕ → Option Filter
filter_named = named (map (λ row. (row.0.now, row.1)) FILTERS)

unfoldable pub test_named : List ℕ → Option Test
test_named = named (map (λ row. (row.0.now, row.1)) TESTS)

-- the filter and the test that a value names
abbrev pub found_or : {T : Type 0} → ErrorKind → Option T → Result T ErrorKind
found_or kind None = Err kind
found_or kind (Some x) = Ok x

abbrev pub filter_by_text : Option (List ℕ) → Result Filter ErrorKind
filter_by_text None = refused
filter_by_text (Some name) = found_or UnknownFilter (filter_named name)

abbrev pub filter_by : Val → Result Filter ErrorKind
filter_by v = filter_by_text (text_in v)

abbrev pub test_by_text : Option (List ℕ) → Result Test ErrorKind
test_by_text None = refused
test_by_text (Some name) = found_or UnknownTest (test_named name)

abbrev pub test_by : Val → Result Test ErrorKind
test_by v = test_by_text (text_in v)

-- whether a value is the name of a filter, or of a test
abbrev pub names_filter : Option (List ℕ) → Bool
names_filter None = false
names_filter (Some name) = is_some (filter_named name)

abbrev pub is_filter_name : Val → Bool
is_filter_name v = names_filter (text_in v)

abbrev pub names_test : Option (List ℕ) → Bool
names_test None = false
names_test (Some name) = is_some (test_named name)

abbrev pub is_test_name : Val → Bool
is_test_name v = names_test (text_in v)

-- what a test says of a value and its arguments
abbrev pub tested : Test → View → Val → List Val → Made
tested (tests.Value test) view v vs = value_tested test view v vs
tested tests.Filter view v vs = then (arguments [] 0 vs) (λ given. Ok (truth (is_filter_name v)))
tested tests.Test view v vs = then (arguments [] 0 vs) (λ given. Ok (truth (is_test_name v)))
