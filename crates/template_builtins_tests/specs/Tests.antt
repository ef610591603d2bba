-- What the tests of values say.
use Rattle.std.specs.Prelude.{ℕ, ℤ, Bool, not, nat_eq, List, [], ◌∷◌, codes, Result, Ok}
use Rattle.std.specs.List.{starts_with, ends_with}
use Rattle.template_values_errors.specs.declared.ErrorKind.{ErrorKind}
use Rattle.template_values_model.specs.Val.{Val, truth}
use Rattle.template_callables.specs.Callables.{View}
use Rattle.template_builtins_arguments.specs.Answers.{Made, then}
use Rattle.template_builtins_arguments.specs.Arguments.{arguments, needed_from, whole}
use Rattle.template_builtins_arguments.specs.Parts.{text_of}
use Rattle.template_builtins_tests.specs.Comparisons.{compared, found_in}
use Rattle.template_builtins_tests.specs.Identity.{identical}
use Rattle.template_builtins_tests.specs.Kinds.{is_of_kind}
use Rattle.template_builtins_tests.specs.Letters.{is_lower, is_upper}
use Rattle.template_builtins_tests.specs.Numbers.{divided, is_multiple}
use Rattle.template_builtins_tests.specs.declared.parts.End.{End}
use Rattle.template_builtins_tests.specs.declared.parts.End.TheVariants as ends
use Rattle.template_builtins_tests.specs.declared.tests.ValueTest.{ValueTest}
use Rattle.template_builtins_tests.specs.declared.tests.ValueTest.TheVariants as tests

-- a test without arguments
abbrev pub by_itself : List Val → Bool → Result Bool ErrorKind
by_itself vs holds = then (arguments [] 0 vs) (λ given. Ok holds)

-- the one argument, by its name
abbrev pub the_one : List ℕ → List Val → Result Val ErrorKind
the_one name vs = then (arguments (name ∷ []) 1 vs) (λ given. needed_from (given 0))

-- a test with one argument
abbrev pub with_one : List ℕ → List Val → (Val → Result Bool ErrorKind) → Result Bool ErrorKind
with_one name vs test = then (the_one name vs) test

-- of a number
abbrev pub counts : List Val → Val → (ℤ → Bool) → Result Bool ErrorKind
counts vs v test = then (arguments [] 0 vs) (λ given. then (whole v) (λ n. Ok (test n)))

-- of a number and another
abbrev pub divides : Val → Val → Result Bool ErrorKind
divides v w = then (whole v) (λ n. then (whole w) (λ d. divided n d))

-- the part is what the text begins with, or ends with
abbrev pub stands_at : End → List ℕ → List ℕ → Bool
stands_at ends.Front s part = starts_with nat_eq s part
stands_at ends.Back s part = ends_with nat_eq s part

-- the value's printed form has another's at an end
abbrev pub has_at : End → View → List ℕ → Val → Result Bool ErrorKind
has_at end view s w = then (text_of view w) (λ part. Ok (stands_at end s part))

abbrev pub relates : End → View → Val → Val → Result Bool ErrorKind
relates end view v w = then (text_of view v) (λ s. has_at end view s w)

-- whether a test holds for a value and the arguments after it
abbrev pub holds : ValueTest → View → Val → List Val → Result Bool ErrorKind
holds (tests.Kind kind) view v vs = by_itself vs (is_of_kind kind v)
holds tests.Lower view v vs = by_itself vs (is_lower v)
holds tests.Upper view v vs = by_itself vs (is_upper v)
holds tests.Odd view v vs = counts vs v (λ n. not (is_multiple n 2))
holds tests.Even view v vs = counts vs v (λ n. is_multiple n 2)
holds tests.DivisibleBy view v vs = with_one (codes "num") vs (divides v)
holds tests.StartingWith view v vs = with_one (codes "s") vs (relates ends.Front view v)
holds tests.EndingWith view v vs = with_one (codes "s") vs (relates ends.Back view v)
holds (tests.Compare comparison) view v vs = with_one (codes "other") vs (compared comparison view v)
holds tests.In view v vs = with_one (codes "seq") vs (found_in view v)
holds tests.SameAs view v vs = with_one (codes "other") vs (λ w. Ok (identical v w))

-- the same as a truth value
abbrev pub value_tested : ValueTest → View → Val → List Val → Made
value_tested test view v vs = then (holds test view v vs) (λ b. Ok (truth b))
