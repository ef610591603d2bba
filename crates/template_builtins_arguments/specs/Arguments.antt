-- The arguments of a call, after the value: by place, and by keyword in a keyword map that stands last.
use Rattle.std.specs.Prelude.{ℕ, zero, suc, ◌-◌, ℤ, Bool, true, false, ◌&&◌, nat_le, if◌then◌else◌, List, length, take, drop, slice_get, Option, None, Some, is_some, option_and_then, Result, Ok, Err}
use Rattle.std.specs.Option.{option_or}
use Rattle.std.specs.List.{list_any}
use Rattle.template_values_errors.specs.declared.ErrorKind.{ErrorKind}
use Rattle.template_values_errors.specs.declared.ErrorKind.TheVariants.{TooManyArguments, MissingArgument}
use Rattle.template_values_model.specs.Val.{Val, Pairs, none, int, keyword_map, no_pairs, pairs_more}
use Rattle.template_values_model.specs.Lookup.{is_text, value_at}
use Rattle.template_callables.specs.Callables.{View}
use Rattle.template_builtins_arguments.specs.Answers.{refused}
use Rattle.template_builtins_arguments.specs.Parts.{truth_of, text_of}

abbrev pub is_keywords : Val → Bool
is_keywords (keyword_map ps) = true
is_keywords _ = false

-- the keyword map that stands last
abbrev pub keywords_of : Option Val → Option Val
keywords_of None = None
keywords_of (Some v) = if is_keywords v then Some v else None

abbrev pub keywords_in : List Val → Option Val
keywords_in vs = keywords_of (slice_get vs (length vs - 1))

-- the arguments before it
abbrev pub by_place : List Val → List Val
by_place vs = if is_some (keywords_in vs) then take (length vs - 1) vs else vs

-- a key is one of these names
abbrev pub is_known : List (List ℕ) → Val → Bool
is_known names key = list_any (λ name. is_text name key) names

abbrev pub are_known : List (List ℕ) → Pairs → Bool
are_known names no_pairs = true
are_known names (pairs_more k v ps) = is_known names k && are_known names ps

abbrev pub has_known : List (List ℕ) → Option Val → Bool
has_known names None = true
has_known names (Some (keyword_map ps)) = are_known names ps
has_known names (Some v) = true

-- No argument is one too many: there are at most so many by place as there are names, and each keyword is one of the names that
-- are left.
abbrev pub are_taken : List (List ℕ) → List Val → Bool
are_taken names vs =
    nat_le (length (by_place vs)) (length names) && has_known (drop (length (by_place vs)) names) (keywords_in vs)

-- the argument by the name of the parameter of a number
abbrev pub named_at : List (List ℕ) → List Val → ℕ → Option Val
named_at names vs i = option_and_then (λ name. option_and_then (value_at name) (keywords_in vs)) (slice_get names i)

-- by place, else by the parameter's name
abbrev pub argument_at : List (List ℕ) → List Val → ℕ → Option Val
argument_at names vs i = option_or (slice_get (by_place vs) i) (named_at names vs i)

-- each of the first n is given
abbrev pub are_given : (ℕ → Option Val) → ℕ → Bool
are_given given zero = true
are_given given (suc n) = are_given given n && is_some (given n)

-- the arguments for parameters of these names, of which the first have no default
abbrev pub arguments : List (List ℕ) → ℕ → List Val → Result (ℕ → Option Val) ErrorKind
arguments names needed vs =
    if are_taken names vs
    then (if are_given (argument_at names vs) needed then Ok (argument_at names vs) else Err MissingArgument)
    else Err TooManyArguments

-- an argument without a default
abbrev pub needed_from : Option Val → Result Val ErrorKind
needed_from None = Err MissingArgument
needed_from (Some v) = Ok v

-- a whole number
abbrev pub whole : Val → Result ℤ ErrorKind
whole (int n) = Ok n
whole _ = refused

-- one that may be none
abbrev pub whole_or_none : Val → Result (Option ℤ) ErrorKind
whole_or_none none = Ok None
whole_or_none (int n) = Ok (Some n)
whole_or_none _ = refused

-- an argument that is a whole number
abbrev pub number_from : Option Val → ℤ → Result ℤ ErrorKind
number_from None default = Ok default
number_from (Some v) default = whole v

abbrev pub optional_number : Option Val → Result (Option ℤ) ErrorKind
optional_number None = Ok None
optional_number (Some v) = whole_or_none v

-- a flag, which is taken by its truth
abbrev pub flag_from : View → Option Val → Bool → Result Bool ErrorKind
flag_from view None default = Ok default
flag_from view (Some v) default = truth_of view v

-- a text, or any value's printed form
abbrev pub text_from : View → Option Val → List ℕ → Result (List ℕ) ErrorKind
text_from view None default = Ok default
text_from view (Some v) default = text_of view v
