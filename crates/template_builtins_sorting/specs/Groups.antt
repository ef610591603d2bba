-- Items of equal parts, together.
use Rattle.std.specs.Prelude.{ℕ, Bool, false, List, [], ◌∷◌, Option, Result, Ok, codes, if◌then◌else◌}
use Rattle.template_values_errors.specs.declared.ErrorKind.{ErrorKind}
use Rattle.template_values_model.specs.Val.{Val}
use Rattle.template_values_operators.specs.Kinds.{list_made}
use Rattle.template_callables.specs.Callables.{View}
use Rattle.template_builtins_arguments.specs.Answers.{Made, then as after, told, refused}
use Rattle.template_builtins_arguments.specs.Arguments.{arguments, flag_from, needed_from}
use Rattle.template_builtins_arguments.specs.Parts.{items_of}
use Rattle.template_builtins_paths.specs.Paths.{is_path, part_of}
use Rattle.template_builtins_sorting.specs.Alike.{runs}
use Rattle.template_builtins_sorting.specs.Keys.{each, keyed, tuple_made}
use Rattle.template_builtins_sorting.specs.Sorted.{in_order, rises}

-- a tuple of the first one's part and the list of items
unfoldable pub group_of : View → Val → Option Val → Val × List Val → Made
group_of view path default run =
    after (part_of view run.0 path default) (λ part.
    after (told (list_made run.1)) (λ items.
    told (tuple_made (part ∷ items ∷ []))))

-- the groups of the items whose parts are equal, in the order of these
unfoldable pub groups : View → Val → Option Val → Bool → List Val → Made
groups view path default is_cased items =
    after (keyed view (path ∷ []) default is_cased items) (λ ks.
    after (each (group_of view path default) (runs (in_order rises ks))) (λ made.
    told (list_made made)))

-- an attribute that is a path
abbrev pub path_from : Val → Result Val ErrorKind
path_from v = if is_path v then Ok v else refused

-- the groups under the arguments: the path, a default for parts that are missing, and whether case counts
unfoldable pub grouped_items : View → (ℕ → Option Val) → List Val → Made
grouped_items view given items =
    after (needed_from (given 0)) (λ attribute.
    after (path_from attribute) (λ path.
    after (flag_from view (given 2) false) (λ is_cased.
    groups view path (given 1) is_cased items)))

unfoldable pub grouped : View → Val → List Val → Made
grouped view v vs =
    after (arguments (codes "attribute" ∷ codes "default" ∷ codes "case_sensitive" ∷ []) 1 vs) (λ given.
    after (items_of view v) (grouped_items view given))
