-- The value of JSON each of whose numbers is a whole one of 64 bits; none where another number stands in it, be it replaced later.
use Rattle.std.specs.Prelude.{ℕ, ℤ, List, [], ◌∷◌, Option, None, Some, option_and_then, option_map}
use Rattle.json.specs.Token.{Token}
use Rattle.json.specs.Json as json
use Rattle.json.specs.Lex.{tokens}
use Rattle.serde_json.specs.Find.{as_integer}
use Rattle.serde_json.specs.Read.{number_of, max_depth}
use Rattle.template_values_model.specs.Val.{Val, Vals, none, truth, int, text, list, map, no_vals, vals_more}
use Rattle.template_values_core.specs.Maps.{collected}

-- a whole number of 64 bits, where the digits are read as one
abbrev pub whole_in : List ℕ → Option ℤ
whole_in s = option_and_then as_integer (number_of s)

-- an array is a list, an object a map whose keys are its names as plain texts
abbrev mutual
  pub whole_value : json.Json → Option Val
  whole_value json.null = Some none
  whole_value (json.boolean b) = Some (truth b)
  whole_value (json.number s) = option_map int (whole_in s)
  whole_value (json.string s) = Some (text s)
  whole_value (json.array js) = option_map list (whole_values js)
  whole_value (json.object ms) = option_map (λ ps. map (collected ps)) (whole_pairs ms)

  pub whole_values : json.Items → Option Vals
  whole_values json.no_items = Some no_vals
  whole_values (json.item j later) = option_and_then (λ v. option_map (vals_more v) (whole_values later)) (whole_value j)

  pub whole_pairs : json.Members → Option (List (Val × Val))
  whole_pairs json.no_members = Some []
  whole_pairs (json.member name j later) = option_and_then (λ v. option_map (λ ps. (text name, v) ∷ ps) (whole_pairs later)) (whole_value j)

-- the pairs of an object, in the order in which they stand
abbrev pub object_pairs : json.Json → Option (List (Val × Val))
object_pairs (json.object ms) = whole_pairs ms
object_pairs _ = None

-- the pairs of the object that a text is
abbrev pub pairs_of_text : List ℕ → Option (List (Val × Val))
pairs_of_text s = option_and_then object_pairs (option_and_then (λ p. json.if_last p.0 p.1) (json.value max_depth (tokens s)))

-- what a token says that opens nothing
abbrev pub leaf_of : Token → Option Val
leaf_of (Token.string s) = Some (text s)
leaf_of (Token.number s) = option_map int (whole_in s)
leaf_of (Token.boolean b) = Some (truth b)
leaf_of Token.null = Some none
leaf_of _ = None
