-- The places beside the left part of an expression, and those of what is left.
use Rattle.std.specs.Prelude.{ℕ, Bool, false, ◌&&◌, ◌||◌, ◌+◌, List, Option, None, Some}
use Rattle.std.specs.Borrow.{Bor}
use Rattle.std.specs.Str.{bytes_eq}
use Rattle.template_compiler_tree.specs.Tree.{Expression, variable, constant, slice, unary, binary, chain, conditional, filtered, tested, attribute, item, call, list_literal, tuple_literal, map_literal}
use Rattle.template_compiler_tree.specs.View.{expression_of}
use Rattle.template_compiler_tree.specs.declared.expressions.Expr.{Expr, size-Expr}
use Rattle.template_compiler_names.specs.Names.{Places, place_before, place_in, place_if_given, place_in_one, place_in_links, place_in_arguments}

-- where the expression has these dotted names behind it
abbrev pub place_beside : Places → List (List ℕ) → Expression → Bool
place_beside places fields (variable id) = places.counts fields && bytes_eq id places.name
place_beside places fields (constant v) = false
place_beside places fields (slice e start stop by) =
    place_if_given places start || place_if_given places stop || place_if_given places by
place_beside places fields (unary op e) = place_in places e
place_beside places fields (binary op left right) = place_in places right
place_beside places fields (chain first links) = place_in_links places links
place_beside places fields (conditional test branch otherwise) =
    place_in places test || place_in places branch || place_if_given places otherwise
place_beside places fields (filtered filter value passed) = place_in_arguments places passed
place_beside places fields (tested test e passed) = place_in_arguments places passed
place_beside places fields (attribute e field) = false
place_beside places fields (item e key) = place_in places key
place_beside places fields (call callee passed) = place_in_arguments places passed
place_beside places fields (list_literal es) = place_in_one places es
place_beside places fields (tuple_literal es) = place_in_one places es
place_beside places fields (map_literal ks vs) = place_in_one places ks || place_in_one places vs

-- what is left of a left chain
abbrev pub left_place : List (List ℕ) → Option (Bor Expr) → Places → Bool
left_place fields None places = false
left_place fields (Some part) places = place_before places fields (expression_of part.now)

abbrev pub left_deep : Option (Bor Expr) → ℕ
left_deep None = 0
left_deep (Some part) = size-Expr part.now + 1
