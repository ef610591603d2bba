-- The places of expressions, as their nodes tell them.
use Rattle.std.specs.Prelude.{List, [], ◌∷◌, Option, None, Some}
use Rattle.template_compiler_tree.specs.declared.expressions.Expr.{Expr, Var, Const, Slice', UnaryOp', BinOp', Compare', IfExpr', Filter', Test', GetAttr', GetItem', Call', List', Tuple', Map', Held-Filter-expr, None', Some', Row_of-CallArg, end_of-CallArg, more_of-CallArg, Row_of-Expr, end_of-Expr, more_of-Expr}
use Rattle.template_compiler_tree.specs.declared.expressions.Compare.{Compare, Compare' as compared, Row_of-CompareOp, end_of-CompareOp, more_of-CompareOp}
use Rattle.template_compiler_tree.specs.declared.expressions.CompareOp.{CompareOp}
use Rattle.template_compiler_tree.specs.declared.calls.CallArg.{CallArg, Pos, Kwarg, PosSplat, KwargSplat}
use Rattle.template_compiler_tree.specs.NodePlaces.{Places, at, Parts, no_parts, parts_more, one, and_parts}

abbrev mutual
  pub places_of : Expr → Places
  places_of (Var n) = at n.span no_parts
  places_of (Const n) = at n.value.span no_parts
  places_of (Slice' p expr start stop step span) =
      at span (parts_more (places_of expr) (and_parts (places_given start) (and_parts (places_given stop) (places_given step))))
  places_of (UnaryOp' p op expr span) = at span (one (places_of expr))
  places_of (BinOp' p op left right span) = at span (parts_more (places_of left) (one (places_of right)))
  places_of (Compare' p compare span) = at span (places_compared compare)
  places_of (IfExpr' p test true_expr false_expr span) =
      at span (parts_more (places_of test) (parts_more (places_of true_expr) (places_given false_expr)))
  places_of (Filter' p name expr shape args span) = at span (and_parts (places_given expr) (places_of_arguments args))
  places_of (Test' p name expr shape args span) = at span (parts_more (places_of expr) (places_of_arguments args))
  places_of (GetAttr' p expr name span) = at span (one (places_of expr))
  places_of (GetItem' p expr subscript span) = at span (parts_more (places_of expr) (one (places_of subscript)))
  places_of (Call' p expr shape args span) = at span (parts_more (places_of expr) (places_of_arguments args))
  places_of (List' p shape items span) = at span (places_of_items items)
  places_of (Tuple' p shape items span) = at span (places_of_items items)
  places_of (Map' p shape keys shape' values span) = at span (and_parts (places_of_items keys) (places_of_items values))

  places_compared : Compare → Parts
  places_compared (compared expr shape ops) = parts_more (places_of expr) (places_of_links ops)

  pub places_given : Held-Filter-expr → Parts
  places_given None' = no_parts
  places_given (Some' expr) = one (places_of expr)

  pub places_of_items : {n : _} → Row_of-Expr n → Parts
  places_of_items end_of-Expr = no_parts
  places_of_items (more_of-Expr expr rest) = parts_more (places_of expr) (places_of_items rest)

  pub places_of_links : {n : _} → Row_of-CompareOp n → Parts
  places_of_links end_of-CompareOp = no_parts
  places_of_links (more_of-CompareOp op expr rest) = parts_more (places_of expr) (places_of_links rest)

  pub places_of_arguments : {n : _} → Row_of-CallArg n → Parts
  places_of_arguments end_of-CallArg = no_parts
  places_of_arguments (more_of-CallArg argument rest) = parts_more (places_of_argument argument) (places_of_arguments rest)

  pub places_of_argument : CallArg → Places
  places_of_argument (Pos expr) = places_of expr
  places_of_argument (Kwarg name expr) = places_of expr
  places_of_argument (PosSplat expr) = places_of expr
  places_of_argument (KwargSplat expr) = places_of expr

-- of what is put together in lists before it is a node
abbrev pub places_optional : Option Expr → Parts
places_optional None = no_parts
places_optional (Some expr) = one (places_of expr)

abbrev pub places_in : List Expr → Parts
places_in [] = no_parts
places_in (expr ∷ rest) = parts_more (places_of expr) (places_in rest)

abbrev pub places_in_links : List CompareOp → Parts
places_in_links [] = no_parts
places_in_links (link ∷ rest) = parts_more (places_of link.expr) (places_in_links rest)

abbrev pub places_in_arguments : List CallArg → Parts
places_in_arguments [] = no_parts
places_in_arguments (argument ∷ rest) = parts_more (places_of_argument argument) (places_in_arguments rest)
