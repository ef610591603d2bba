-- The functions that an environment has by itself, and what a call comes to.
use Rattle.std.specs.Prelude.{ℕ, zero, suc, ◌-◌, ◌^◌, ◌++◌, ℤ, pos, negsuc, ◌+ℤ◌, ◌*ℤ◌, int_le, nat_le, Bool, ◌&&◌, List, [], ◌∷◌, length, map, slice_get, Option, None, Some, Result, Ok, Err, codes, if◌then◌else◌}
use Rattle.std.specs.Ordering.{int_eq}
use Rattle.template_values_errors.specs.declared.ErrorKind.{ErrorKind}
use Rattle.template_values_errors.specs.declared.ErrorKind.TheVariants.{InvalidOperation, TooManyArguments, MissingArgument}
use Rattle.template_values_model.specs.Val as values
use Rattle.template_values_model.specs.Val.{Val, Pairs, no_pairs, pairs_more, int, list, keyword_map, function, vals_of}
use Rattle.template_values_core.specs.Answers.{text_in}
use Rattle.template_values_operators.specs.Kinds.{is_undefined}
use Rattle.template_values_operators.specs.Slices.{step_count}
use Rattle.template_compiler_walk.specs.Containers.{map_made}
use Rattle.template_machine_meaning.specs.Faults.{kinded}

-- a bound or a step of a range: a whole number of 64 bits
abbrev pub bound_in : Val → Option ℤ
bound_in (int n) = if int_le (negsuc (2 ^ 63 - 1)) n && int_le n (pos (2 ^ 63 - 1)) then Some n else None
bound_in _ = None

-- as many numbers, from the start on, each a step from the one before
abbrev pub numbers_from : ℤ → ℤ → ℕ → List Val
numbers_from start step zero = []
numbers_from start step (suc k) = numbers_from start step k ++ int (start +ℤ pos k *ℤ step) ∷ []

-- the most numbers that a range has
abbrev pub range_limit : ℕ
range_limit = 100000

abbrev pub numbers_listed : ℤ → ℤ → ℕ → Result Val ErrorKind
numbers_listed start step n = if nat_le n range_limit then Ok (list (vals_of (numbers_from start step n))) else Err InvalidOperation

-- the numbers from the start on that lie before the stop
abbrev pub range_by : Option ℤ → Option ℤ → Option ℤ → Result Val ErrorKind
range_by (Some start) (Some stop) (Some step) =
    if int_eq step (pos 0) then Err InvalidOperation else numbers_listed start step (step_count start stop step)
range_by _ _ _ = Err InvalidOperation

-- a stop alone, a start and a stop, or a start, a stop and a step
abbrev pub range_given : List Val → Result Val ErrorKind
range_given [] = Err MissingArgument
range_given (stop ∷ []) = range_by (Some (pos 0)) (bound_in stop) (Some (pos 1))
range_given (start ∷ stop ∷ []) = range_by (bound_in start) (bound_in stop) (Some (pos 1))
range_given (start ∷ stop ∷ step ∷ []) = range_by (bound_in start) (bound_in stop) (bound_in step)
range_given _ = Err TooManyArguments

-- keys with their values, in order
abbrev pub entries_of : Pairs → List (Val × Val)
entries_of no_pairs = []
entries_of (pairs_more k v ps) = (k, v) ∷ entries_of ps

-- the entries of a map; undefined has none
abbrev pub base_in : Val → Option (List (Val × Val))
base_in (values.map ps) = Some (entries_of ps)
base_in v = if is_undefined v then Some [] else None

-- of equal keys the last value stands
abbrev pub dict_of : Option (List (Val × Val)) → List (Val × Val) → Result Val ErrorKind
dict_of (Some base) named = kinded (map_made (base ++ named))
dict_of None named = Err InvalidOperation

-- nothing, undefined or a map, and then keywords
abbrev pub dict_given : List Val → Result Val ErrorKind
dict_given [] = dict_of (Some []) []
dict_given (keyword_map named ∷ []) = dict_of (Some []) (entries_of named)
dict_given (v ∷ []) = dict_of (base_in v) []
dict_given (v ∷ keyword_map named ∷ []) = dict_of (base_in v) (entries_of named)
dict_given _ = Err InvalidOperation

-- the entries whose keys are texts, each under its plain text
abbrev pub names_in : Pairs → List (Val × Val)
names_in no_pairs = []
names_in (pairs_more k v ps) = elim (text_in k) [ None ↦ names_in ps | Some name ↦ (values.text name, v) ∷ names_in ps ]

-- what a new namespace holds: nothing, the entries of a map, or keywords
abbrev pub namespace_given : List Val → Result (List (Val × Val)) ErrorKind
namespace_given [] = Ok []
namespace_given (values.map ps ∷ []) = Ok (names_in ps)
namespace_given (keyword_map ps ∷ []) = Ok (names_in ps)
namespace_given (v ∷ []) = Err InvalidOperation
namespace_given _ = Err TooManyArguments

-- what is called of a user's own: the filter or the test of a name, the function of a number, or what answers for a method that
-- a value does not have
pub data Invoked : Type 0 where
  filter_named : List ℕ → Invoked
  test_named : List ℕ → Invoked
  function_numbered : ℕ → Invoked
  method_of : Val → List ℕ → Invoked

-- what a call comes to: a value or a refusal; a namespace that is made; arguments that are compared with those that `changed`
-- was called with last for the loop of a number; a call of a user's own; a call of the macro of a state's id and a number; or
-- the rounds of such a loop, called again
pub data Called : Type 0 where
  gives : Result Val ErrorKind → Called
  makes : List (Val × Val) → Called
  compares : ℕ → List Val → Called
  invokes : Invoked → List Val → Called
  calls : ℕ → ℕ → List Val → Called
  runs_again : ℕ → ℕ → List Val → Called

abbrev pub namespace_called : Result (List (Val × Val)) ErrorKind → Called
namespace_called (Ok entries) = makes entries
namespace_called (Err kind) = gives (Err kind)

-- a function that an environment has by itself: its name, and what a call of it comes to
pub record OwnFunction : Type 0 where
  pub name : List ℕ
  pub called : List Val → Called

-- all of them, in the order of their numbers
abbrev pub own_table : List OwnFunction
own_table =
    record { name = codes "range"; called = λ vs. gives (range_given vs) }
    ∷ record { name = codes "dict"; called = λ vs. gives (dict_given vs) }
    ∷ record { name = codes "namespace"; called = λ vs. namespace_called (namespace_given vs) }
    ∷ []

-- how many there are
abbrev pub own_functions : ℕ
own_functions = length own_table

-- the name of the function of a number
abbrev pub own_name : ℕ → Option (List ℕ)
own_name number = slice_get (map (λ f. f.name) own_table) number

-- the names, each with the function of the environment of a number; they are numbered in turn
abbrev pub values_from : ℕ → ℕ → List OwnFunction → List (List ℕ × Val)
values_from id number [] = []
values_from id number (f ∷ fs) = (f.name, function id number) ∷ values_from id (suc number) fs

abbrev pub own_values : ℕ → List (List ℕ × Val)
own_values id = values_from id 0 own_table

-- a call of a function of the table
abbrev pub called_in : List OwnFunction → ℕ → List Val → Called
called_in [] number vs = gives (Err InvalidOperation)
called_in (f ∷ fs) zero vs = f.called vs
called_in (f ∷ fs) (suc number) vs = called_in fs number vs

abbrev pub own_called : ℕ → List Val → Called
own_called number vs = called_in own_table number vs
