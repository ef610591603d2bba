-- Maps as the attributes of an element.
use Rattle.std.specs.Prelude.{ℕ, Bool, true, false, List, [], codes, Result, Ok}
use Rattle.template_values_errors.specs.declared.ErrorKind.{ErrorKind}
use Rattle.template_values_model.specs.Val as value
use Rattle.template_values_model.specs.Val.{Val, Pairs, no_pairs, pairs_more}
use Rattle.template_callables.specs.Callables.{View}
use Rattle.template_builtins_arguments.specs.Answers.{refused, then}
use Rattle.template_builtins_arguments.specs.Parts.{text_of}
use Rattle.template_builtins_arguments.specs.Texts.{piece_of}
use Rattle.template_builtins_web.specs.Attributes.{has_barred, is_absent}
use Rattle.template_builtins_web.specs.Pieces.{enclosed, followed}

-- a key that may be a name
abbrev pub name_from : Bool → Result (Unit {0}) ErrorKind
name_from true = refused
name_from false = Ok tt

abbrev pub named : View → Val → Result (Unit {0}) ErrorKind
named view k = then (text_of view k) (λ s. name_from (has_barred s))

-- a space, and key="value", both under HTML's escape
abbrev pub attribute : View → Val → Val → Result (List ℕ) ErrorKind
attribute view k v =
    then (named view k) (λ passed.
    followed (enclosed (codes " ") (piece_of view true k) (codes "=\"")) (enclosed [] (piece_of view true v) (codes "\"")))

abbrev pub attribute_unless : Bool → View → Val → Val → Result (List ℕ) ErrorKind
attribute_unless true view k v = Ok []
attribute_unless false view k v = attribute view k v

abbrev pub entry_text : View → Val → Val → Result (List ℕ) ErrorKind
entry_text view k v = attribute_unless (is_absent v) view k v

abbrev pub attributes : View → Pairs → Result (List ℕ) ErrorKind
attributes view no_pairs = Ok []
attributes view (pairs_more k v ps) = followed (entry_text view k v) (attributes view ps)

-- of a map alone
abbrev pub attributes_of : View → Val → Result (List ℕ) ErrorKind
attributes_of view (value.map ps) = attributes view ps
attributes_of view (value.keyword_map ps) = attributes view ps
attributes_of view (value.«module» ps s) = attributes view ps
attributes_of view _ = refused
