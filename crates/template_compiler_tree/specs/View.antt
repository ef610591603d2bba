-- The trees in the nodes: their places in the source are left out.
use Rattle.std.specs.Prelude.{List, [], ◌∷◌, Option, None, Some}
use Rattle.std.specs.Cow.{cow_str_bytes}
use Rattle.template_compiler_tree.specs.Tree.{Expression, variable, constant, slice, unary, binary, chain, conditional, filtered, tested, attribute, item, call, list_literal, tuple_literal, map_literal, Optional, absent, given, Expressions, no_expressions, expressions_more, Links, no_links, links_more, Arguments, no_arguments, arguments_more, Argument, positional, keyword, positional_spread, keyword_spread}
use Rattle.template_compiler_tree.specs.declared.expressions.Expr.{Expr, Var, Const, Slice', UnaryOp', BinOp', Compare', IfExpr', Filter', Test', GetAttr', GetItem', Call', List', Tuple', Map', Held-Filter-expr, None', Some', Row_of-CallArg, end_of-CallArg, more_of-CallArg, Row_of-Expr, end_of-Expr, more_of-Expr}
use Rattle.template_compiler_tree.specs.declared.expressions.Compare.{Compare, Compare' as compared, Row_of-CompareOp, end_of-CompareOp, more_of-CompareOp}
use Rattle.template_compiler_tree.specs.declared.expressions.CompareOp.{CompareOp}
use Rattle.template_compiler_tree.specs.declared.calls.CallArg.{CallArg, Pos, Kwarg, PosSplat, KwargSplat}

abbrev mutual
  pub expression_of : Expr → Expression
  expression_of (Var n) = variable n.node.id.now
  expression_of (Const n) = constant n.value.node.value
  expression_of (Slice' p expr start stop step span) =
      slice (expression_of expr) (optional_of start) (optional_of stop) (optional_of step)
  expression_of (UnaryOp' p op expr span) = unary op (expression_of expr)
  expression_of (BinOp' p op left right span) = binary op (expression_of left) (expression_of right)
  expression_of (Compare' p compare span) = chain_of compare
  expression_of (IfExpr' p test true_expr false_expr span) =
      conditional (expression_of test) (expression_of true_expr) (optional_of false_expr)
  expression_of (Filter' p name expr shape args span) =
      filtered (cow_str_bytes name) (optional_of expr) (arguments_of args)
  expression_of (Test' p name expr shape args span) =
      tested (cow_str_bytes name) (expression_of expr) (arguments_of args)
  expression_of (GetAttr' p expr name span) = attribute (expression_of expr) name.now
  expression_of (GetItem' p expr subscript span) = item (expression_of expr) (expression_of subscript)
  expression_of (Call' p expr shape args span) = call (expression_of expr) (arguments_of args)
  expression_of (List' p shape items span) = list_literal (expressions_of items)
  expression_of (Tuple' p shape items span) = tuple_literal (expressions_of items)
  expression_of (Map' p shape keys shape' values span) =
      map_literal (expressions_of keys) (expressions_of values)

  pub chain_of : Compare → Expression
  chain_of (compared expr shape ops) = chain (expression_of expr) (links_of ops)

  pub optional_of : Held-Filter-expr → Optional
  optional_of None' = absent
  optional_of (Some' expr) = given (expression_of expr)

  pub expressions_of : {n : _} → Row_of-Expr n → Expressions
  expressions_of end_of-Expr = no_expressions
  expressions_of (more_of-Expr expr rest) = expressions_more (expression_of expr) (expressions_of rest)

  pub links_of : {n : _} → Row_of-CompareOp n → Links
  links_of end_of-CompareOp = no_links
  links_of (more_of-CompareOp op expr rest) = links_more op (expression_of expr) (links_of rest)

  pub arguments_of : {n : _} → Row_of-CallArg n → Arguments
  arguments_of end_of-CallArg = no_arguments
  arguments_of (more_of-CallArg argument rest) = arguments_more (argument_of argument) (arguments_of rest)

  pub argument_of : CallArg → Argument
  argument_of (Pos expr) = positional (expression_of expr)
  argument_of (Kwarg name expr) = keyword name.now (expression_of expr)
  argument_of (PosSplat expr) = positional_spread (expression_of expr)
  argument_of (KwargSplat expr) = keyword_spread (expression_of expr)

abbrev pub optional_in : Option Expr → Optional
optional_in None = absent
optional_in (Some expr) = given (expression_of expr)

abbrev pub expressions_in : List Expr → Expressions
expressions_in [] = no_expressions
expressions_in (expr ∷ rest) = expressions_more (expression_of expr) (expressions_in rest)

abbrev pub links_in : List CompareOp → Links
links_in [] = no_links
links_in (link ∷ rest) = links_more link.op (expression_of link.expr) (links_in rest)

abbrev pub arguments_in : List CallArg → Arguments
arguments_in [] = no_arguments
arguments_in (argument ∷ rest) = arguments_more (argument_of argument) (arguments_in rest)
