-- Texts put together with another between them.
use Rattle.std.specs.Prelude.{ℕ, List, [], ◌∷◌, codes, Result, Ok}
use Rattle.std.specs.List.{join_by}
use Rattle.template_values_errors.specs.declared.ErrorKind.{ErrorKind}
use Rattle.template_values_model.specs.Val as value
use Rattle.template_values_model.specs.Val.{Val}
use Rattle.template_callables.specs.Callables.{View}
use Rattle.template_builtins_arguments.specs.Answers.{Made, then, refused}
use Rattle.template_builtins_arguments.specs.Arguments.{needed_from}
use Rattle.template_builtins_arguments.specs.Parts.{items_of}
use Rattle.template_builtins_pieces.specs.Reading.{placed, plain_text}

-- the items of a value; none has no items to join
abbrev pub joined_items : View → Val → Result (List Val) ErrorKind
joined_items view value.none = refused
joined_items view v = items_of view v

-- the texts of values that are all texts
abbrev pub texts_of : List Val → Result (List (List ℕ)) ErrorKind
texts_of [] = Ok []
texts_of (v ∷ vs) = then (plain_text v) (λ s. then (texts_of vs) (λ rest. Ok (s ∷ rest)))

-- the texts with a separator between them
abbrev pub joined : List ℕ → List Val → Made
joined separator vs = then (texts_of vs) (λ parts. Ok (value.text (join_by (λ s. s) separator parts)))

abbrev pub join : View → Val → List Val → Made
join view v vs =
    then (placed (codes "items" ∷ []) 1 vs) (λ given.
    then (plain_text v) (λ separator.
    then (needed_from (given 0)) (λ items.
    then (joined_items view items) (λ parts. joined separator parts))))
