-- What filters make that go over the items of a value.
use Rattle.std.specs.Prelude.{◌==◌, Bool, true, false, not, ◌&&◌, if◌then◌else◌, List, [], ◌∷◌, ◌++◌, length, Option, None, Some, Result, Ok, Err, codes}
use Rattle.template_values_errors.specs.declared.ErrorKind.{ErrorKind}
use Rattle.template_values_errors.specs.declared.ErrorKind.TheVariants.{MissingArgument}
use Rattle.template_values_model.specs.Val.{Val}
use Rattle.template_values_operators.specs.Kinds.{is_none, list_made}
use Rattle.template_callables.specs.Callables.{View}
use Rattle.template_builtins_arguments.specs.Answers.{Made, then as after, told, refused}
use Rattle.template_builtins_arguments.specs.Arguments.{arguments, is_keywords, needed_from}
use Rattle.template_builtins_arguments.specs.Parts.{items_of, truth_of}
use Rattle.template_builtins_paths.specs.Items.{each}
use Rattle.template_builtins_paths.specs.Paths.{is_path, part_of}
use Rattle.template_builtins_callables.specs.Builtins.{test_by, tested}
use Rattle.template_builtins_callables.specs.declared.test.Test.{Test}

-- the items for which it holds, in order; of refusals the first
abbrev pub one_if : Bool → Val → List Val
one_if holds v = if holds then v ∷ [] else []

abbrev pub kept : (Val → Result Bool ErrorKind) → List Val → Result (List Val) ErrorKind
kept f [] = Ok []
kept f (v ∷ vs) = after (f v) (λ holds. after (kept f vs) (λ xs. Ok (one_if holds v ++ xs)))

-- the list of what was made
abbrev pub listed : Result (List Val) ErrorKind → Made
listed made = after made (λ vs. told (list_made vs))

-- a keyword map alone is no argument by place
abbrev pub is_alone : Val → List Val → Bool
is_alone v vs = is_keywords v && (length vs == 0)

-- no argument is left
abbrev pub no_more : List Val → Result (Unit {0}) ErrorKind
no_more vs = after (arguments [] 0 vs) (λ given. Ok tt)

-- a path as an argument
abbrev pub path_of : Val → Result Val ErrorKind
path_of v = if is_path v then Ok v else refused

abbrev pub path_at : Option Val → Result Val ErrorKind
path_at given = after (needed_from given) path_of

-- each item's part
unfoldable pub parts_made : View → Val → List Val → Made
parts_made view v vs =
    after (arguments (codes "attribute" ∷ codes "default" ∷ []) 1 vs) (λ given.
    after (items_of view v) (λ items.
    after (path_at (given 0)) (λ path.
    listed (each (λ item. part_of view item path (given 1)) items))))

-- the name of a test and the arguments after it; where none is named, none are left
abbrev pub test_in : List Val → Result (Option (Val × List Val)) ErrorKind
test_in [] = Ok None
test_in (name ∷ rest) =
    if is_none name then after (no_more rest) (λ u. Ok None)
    else (if is_alone name rest then after (no_more (name ∷ rest)) (λ u. Ok None) else Ok (Some (name, rest)))

-- the test of the name, with its arguments
abbrev pub test_from : Option (Val × List Val) → Result (Option (Test × List Val)) ErrorKind
test_from None = Ok None
test_from (Some named) = after (test_by named.0) (λ test. Ok (Some (test, named.1)))

-- whether the test holds for a value; without one, whether that is true
abbrev pub holds : View → Option (Test × List Val) → Val → Result Bool ErrorKind
holds view None v = truth_of view v
holds view (Some test) v = after (tested test.0 view v test.1) (truth_of view)

-- whether it is so as it is wanted
abbrev pub is_wanted : Bool → Bool → Bool
is_wanted true so = so
is_wanted false so = not so

abbrev pub answers : Bool → View → Option (Test × List Val) → Val → Result Bool ErrorKind
answers wanted view test v = after (holds view test v) (λ so. Ok (is_wanted wanted so))

-- the same of the part at a path
abbrev pub part_answers : Bool → View → Val → Option (Test × List Val) → Val → Result Bool ErrorKind
part_answers wanted view path test v = after (part_of view v path None) (answers wanted view test)

-- the items for which a test holds, or does not
unfoldable pub selected : Bool → View → Val → List Val → Made
selected wanted view v vs =
    after (test_in vs) (λ named.
    after (items_of view v) (λ items.
    after (test_from named) (λ test.
    listed (kept (answers wanted view test) items))))

-- the items for whose part a test holds, or does not
unfoldable pub part_selected : Bool → View → Val → Val → List Val → Made
part_selected wanted view v path vs =
    after (test_in vs) (λ named.
    after (items_of view v) (λ items.
    after (path_of path) (λ path.
    after (test_from named) (λ test.
    listed (kept (part_answers wanted view path test) items)))))

-- where no path is given by place
abbrev pub no_path : List Val → Made
no_path vs = after (no_more vs) (λ u. Err MissingArgument)

unfoldable pub selected_by_part : Bool → View → Val → List Val → Made
selected_by_part wanted view v [] = no_path []
selected_by_part wanted view v (path ∷ rest) =
    if is_alone path rest then no_path (path ∷ rest) else part_selected wanted view v path rest
