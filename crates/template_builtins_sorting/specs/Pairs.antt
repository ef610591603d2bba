-- The pairs of a map, in the order of its keys or values.
use Rattle.std.specs.Prelude.{ℕ, Bool, true, false, List, [], ◌∷◌, Option, None, Some, Result, Ok, codes, if◌then◌else◌}
use Rattle.std.specs.Str.{bytes_eq}
use Rattle.template_values_errors.specs.declared.ErrorKind.{ErrorKind}
use Rattle.template_values_model.specs.Val.{Val, Pairs, no_pairs, pairs_more}
use Rattle.template_values_core.specs.Answers.{text_in}
use Rattle.template_values_core.specs.Reads.{pairs_held}
use Rattle.template_callables.specs.Callables.{View}
use Rattle.template_builtins_arguments.specs.Answers.{Made, then as after, told, refused}
use Rattle.template_builtins_arguments.specs.Arguments.{arguments, flag_from}
use Rattle.template_builtins_arguments.specs.Parts.{is_half_strict, unless_forbidden}
use Rattle.template_builtins_sorting.specs.Keys.{each, folded, tuple_made}
use Rattle.template_builtins_sorting.specs.Sorted.{listed_in_order}
use Rattle.template_builtins_sorting.specs.declared.keyed.Keyed.{Keyed}

abbrev pub pairs_listed : Pairs → List (Val × Val)
pairs_listed no_pairs = []
pairs_listed (pairs_more k v ps) = (k, v) ∷ pairs_listed ps

abbrev pub pairs_from : Option Pairs → Result (List (Val × Val)) ErrorKind
pairs_from None = refused
pairs_from (Some ps) = Ok (pairs_listed ps)

-- the pairs of a map, keyword map or module; another value is refused
unfoldable pub pairs_of_map : View → Val → Result (List (Val × Val)) ErrorKind
pairs_of_map view v = unless_forbidden (is_half_strict view.undefined) v (pairs_from (pairs_held v))

-- whether a word says that values are compared, and not keys
abbrev pub is_by_value : Option (List ℕ) → Result Bool ErrorKind
is_by_value None = refused
is_by_value (Some word) = if bytes_eq word (codes "value") then Ok true else (if bytes_eq word (codes "key") then Ok false else refused)

abbrev pub by_value_from : Option Val → Result Bool ErrorKind
by_value_from None = Ok false
by_value_from (Some v) = is_by_value (text_in v)

-- a pair as a tuple, with the key or the value that it is compared by
unfoldable pub keyed_pair : Bool → Bool → Val × Val → Result Keyed ErrorKind
keyed_pair by_value is_cased p =
    after (told (tuple_made (p.0 ∷ p.1 ∷ []))) (λ pair.
    Ok (record { key = folded is_cased (if by_value then p.1 else p.0); item = pair }))

-- under what each pair is compared by: in that order, or in the reverse one
unfoldable pub turned_pairs : View → (ℕ → Option Val) → Bool → Bool → List (Val × Val) → Made
turned_pairs view given by_value is_cased ps =
    after (flag_from view (given 2) false) (λ is_reversed.
    after (each (keyed_pair by_value is_cased) ps) (listed_in_order is_reversed))

-- under the arguments: whether case counts, the word for what is compared, and whether the order is reversed
unfoldable pub sorted_pairs : View → (ℕ → Option Val) → List (Val × Val) → Made
sorted_pairs view given ps =
    after (flag_from view (given 0) false) (λ is_cased.
    after (by_value_from (given 1)) (λ by_value.
    turned_pairs view given by_value is_cased ps))

-- the pairs of a map as tuples, in the order of its keys or values
unfoldable pub sorted_map : View → Val → List Val → Made
sorted_map view v vs =
    after (arguments (codes "case_sensitive" ∷ codes "by" ∷ codes "reverse" ∷ []) 0 vs) (λ given.
    after (pairs_of_map view v) (sorted_pairs view given))
