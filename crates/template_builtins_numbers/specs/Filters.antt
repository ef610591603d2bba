-- What the filters on numbers and on any value make of a value and the arguments after it.
use Rattle.std.specs.Prelude.{pos, Bool, true, false, List, [], ◌∷◌, Ok, codes}
use Rattle.template_values_model.specs.Val.{Val, truth}
use Rattle.template_values_core.specs.Answers.{text_in}
use Rattle.template_callables.specs.Callables.{View}
use Rattle.template_builtins_arguments.specs.Answers.{Made, then}
use Rattle.template_builtins_arguments.specs.Arguments.{arguments, flag_from, needed_from, number_from}
use Rattle.template_builtins_arguments.specs.Parts.{items_of, truth_of}
use Rattle.template_builtins_paths.specs.Items.{path_from}
use Rattle.template_builtins_numbers.specs.Numerals.{base_from, number_in, number_or}
use Rattle.template_builtins_numbers.specs.Values.{attribute_named, default_from, is_lacking, magnitude_of, start_from, summed}
use Rattle.template_builtins_numbers.specs.declared.filter.ValueFilter.{ValueFilter}
use Rattle.template_builtins_numbers.specs.declared.filter.ValueFilter.TheVariants as filters

abbrev pub one_of : Bool → Val → Val → Val
one_of true v w = v
one_of false v w = w

-- the default where the value is undefined, or with `boolean` false
unfoldable pub defaulted : View → Val → List Val → Made
defaulted view v vs =
    then (arguments (codes "default_value" ∷ codes "boolean" ∷ []) 0 vs) (λ given.
    then (flag_from view (given 1) false) (λ boolean.
    then (is_lacking view boolean v) (λ lacks.
    Ok (one_of lacks (default_from (given 0)) v))))

-- the number without its sign
unfoldable pub unsigned : Val → List Val → Made
unsigned v vs = then (arguments [] 0 vs) (λ given. magnitude_of v)

-- the start and each of the items, or its part at an attribute
unfoldable pub total : View → Val → List Val → Made
total view v vs =
    then (arguments (codes "attribute" ∷ codes "start" ∷ []) 0 vs) (λ given.
    then (items_of view v) (λ items.
    then (path_from (given 0)) (λ path.
    summed view path (start_from (given 1)) items)))

-- whether it counts as true
unfoldable pub judged : View → Val → List Val → Made
judged view v vs = then (arguments [] 0 vs) (λ given. then (truth_of view v) (λ t. Ok (truth t)))

-- the attribute of a name
unfoldable pub attribute : View → Val → List Val → Made
attribute view v vs =
    then (arguments (codes "name" ∷ []) 1 vs) (λ given.
    then (needed_from (given 0)) (λ name.
    attribute_named view v (text_in name)))

-- the whole number that the value stands for in a base, else a default
unfoldable pub whole : Val → List Val → Made
whole v vs =
    then (arguments (codes "default" ∷ codes "base" ∷ []) 0 vs) (λ given.
    then (number_from (given 1) (pos 10)) (λ number.
    then (base_from number) (λ base.
    Ok (number_or (start_from (given 0)) (number_in base v)))))

abbrev pub value_filtered : ValueFilter → View → Val → List Val → Made
value_filtered filters.Default = defaulted
value_filtered filters.Abs = λ view. unsigned
value_filtered filters.Int = λ view. whole
value_filtered filters.Sum = total
value_filtered filters.Bool = judged
value_filtered filters.Attr = attribute
