-- What spreads pass: the items of values, one behind the other, and the entries of maps as one keyword map.
use Rattle.std.specs.Prelude.{List, [], ◌∷◌, ◌++◌, Option, None, Some, Result, Ok, Err}
use Rattle.template_values_errors.specs.declared.ErrorKind.{ErrorKind}
use Rattle.template_values_errors.specs.declared.ErrorKind.TheVariants.{InvalidOperation}
use Rattle.template_values_errors.specs.declared.modes.UndefinedBehavior.{UndefinedBehavior}
use Rattle.template_values_model.specs.Val as values
use Rattle.template_values_model.specs.Val.{Val, keyword_map, «module», namespace}
use Rattle.template_values_forms.specs.Known.{Known}
use Rattle.template_values_operators.specs.Iterated.{iterated}
use Rattle.template_compiler_walk.specs.Containers.{kwargs_made}
use Rattle.template_machine_meaning.specs.Undefined.{forbids_iterating}
use Rattle.template_machine_meaning.specs.Replies.{kinded, guarded}
use Rattle.template_machine_meaning.specs.Functions.{entries_of}

-- what the first gives, and behind it what the second gives; a refusal of the first comes before one of the second
abbrev pub one_behind : {X : Type 0} → Result (List X) ErrorKind → Result (List X) ErrorKind → Result (List X) ErrorKind
one_behind (Ok xs) (Ok ys) = Ok (xs ++ ys)
one_behind (Ok xs) (Err kind) = Err kind
one_behind (Err kind) later = Err kind

-- the items of each value; undefined and none have none, under every behaviour
abbrev pub items_of_each : Known → List Val → Result (List Val) ErrorKind
items_of_each known [] = Ok []
items_of_each known (v ∷ vs) = one_behind (kinded (iterated known v)) (items_of_each known vs)

-- the entries of a map, a keyword map, a module, or a namespace that is known
abbrev pub entries_held : Known → Val → Option (List (Val × Val))
entries_held known (values.map ps) = Some (entries_of ps)
entries_held known (keyword_map ps) = Some (entries_of ps)
entries_held known («module» ps s) = Some (entries_of ps)
entries_held known (namespace id number) = known.namespaces id number
entries_held known _ = None

abbrev pub entries_or_refused : Option (List (Val × Val)) → Result (List (Val × Val)) ErrorKind
entries_or_refused (Some entries) = Ok entries
entries_or_refused None = Err InvalidOperation

-- the entries of each map; undefined is none of them, and refused as such where it may not be gone over
abbrev pub entries_of_each : UndefinedBehavior → Known → List Val → Result (List (Val × Val)) ErrorKind
entries_of_each mode known [] = Ok []
entries_of_each mode known (v ∷ vs) =
    one_behind (guarded (forbids_iterating mode v) (entries_or_refused (entries_held known v))) (entries_of_each mode known vs)

-- a keyword map of them all: of equal names the last value stands
abbrev pub keywords_of : Result (List (Val × Val)) ErrorKind → Result Val ErrorKind
keywords_of (Ok entries) = kinded (kwargs_made entries)
keywords_of (Err kind) = Err kind

abbrev pub merged_keywords : UndefinedBehavior → Known → List Val → Result Val ErrorKind
merged_keywords mode known vs = keywords_of (entries_of_each mode known vs)
