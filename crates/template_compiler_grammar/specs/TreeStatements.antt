-- The places of statements, as their nodes tell them.
use Rattle.std.specs.Prelude.{List, [], ◌∷◌, Option}
use Rattle.template_compiler_tree.specs.declared.expressions.Expr.{Expr}
use Rattle.template_compiler_tree_statements.specs.declared.statements.CallBlock.{CallBlock, CallBlock' as called}
use Rattle.template_compiler_tree_statements.specs.declared.statements.Stmt.{Stmt, Template', EmitExpr, EmitRaw, ForLoop', IfCond', WithBlock', Set, SetBlock', AutoEscape', FilterBlock', Block', Import, FromImport, Extends, Include, Macro', CallBlock', Continue, Break, Do, Row_of-Stmt, end_of-Stmt, more_of-Stmt}
use Rattle.template_compiler_tree.specs.NodePlaces.{Places, at, Parts, no_parts, parts_more, one, and_parts}
use Rattle.template_compiler_tree.specs.ExpressionPlaces.{places_of, places_optional, places_in, places_in_arguments}

abbrev pub places_of_assignments : List (Expr × Expr) → Parts
places_of_assignments [] = no_parts
places_of_assignments (pair ∷ rest) = parts_more (places_of pair.0) (parts_more (places_of pair.1) (places_of_assignments rest))

abbrev pub places_of_imports : List (Expr × Option Expr) → Parts
places_of_imports [] = no_parts
places_of_imports (pair ∷ rest) = parts_more (places_of pair.0) (and_parts (places_optional pair.1) (places_of_imports rest))

abbrev mutual
  pub statement_places : Stmt → Places
  statement_places (Template' shape children span) = at span (statements_places children)
  statement_places (EmitExpr n) = at n.span (one (places_of n.node.expr))
  statement_places (EmitRaw n) = at n.span no_parts
  statement_places (ForLoop' p target iter filter recursive shape body shape' else_body span) =
      at span (parts_more (places_of target) (parts_more (places_of iter)
      (and_parts (places_optional filter) (and_parts (statements_places body) (statements_places else_body)))))
  statement_places (IfCond' p expr shape body shape' else_body span) =
      at span (parts_more (places_of expr) (and_parts (statements_places body) (statements_places else_body)))
  statement_places (WithBlock' p assignments shape body span) =
      at span (and_parts (places_of_assignments assignments.items) (statements_places body))
  statement_places (Set n) = at n.value.span (parts_more (places_of n.value.node.target) (one (places_of n.value.node.expr)))
  statement_places (SetBlock' p target filter shape body span) =
      at span (parts_more (places_of target) (and_parts (places_optional filter) (statements_places body)))
  statement_places (AutoEscape' p enabled shape body span) = at span (parts_more (places_of enabled) (statements_places body))
  statement_places (FilterBlock' p filter shape body span) = at span (parts_more (places_of filter) (statements_places body))
  statement_places (Block' p name required shape body span) = at span (statements_places body)
  statement_places (Import n) = at n.value.span (parts_more (places_of n.value.node.expr) (one (places_of n.value.node.name)))
  statement_places (FromImport n) = at n.value.span (parts_more (places_of n.value.node.expr) (places_of_imports n.value.node.names.items))
  statement_places (Extends n) = at n.value.span (one (places_of n.value.node.name))
  statement_places (Include n) = at n.value.span (one (places_of n.value.node.name))
  statement_places (Macro' p name args defaults shape body span) =
      at span (and_parts (places_in args.items) (and_parts (places_in defaults.items) (statements_places body)))
  statement_places (CallBlock' p n span) = at span (places_called n)
  statement_places (Continue n) = at n.span no_parts
  statement_places (Break n) = at n.span no_parts
  statement_places (Do n) =
      at n.span (one (at n.node.call.value.span (parts_more (places_of n.node.call.value.node.expr)
      (places_in_arguments n.node.call.value.node.args.items))))

  -- the call, and the macro that the body is
  places_called : CallBlock → Parts
  places_called (called call p name args defaults shape body span) =
      parts_more (at call.value.span (parts_more (places_of call.value.node.expr) (places_in_arguments call.value.node.args.items)))
      (one (at span (and_parts (places_in args.items) (and_parts (places_in defaults.items) (statements_places body)))))

  pub statements_places : {n : _} → Row_of-Stmt n → Parts
  statements_places end_of-Stmt = no_parts
  statements_places (more_of-Stmt statement rest) = parts_more (statement_places statement) (statements_places rest)

-- those in a list, behind one another
abbrev pub places_of_statements : List Stmt → Parts
places_of_statements [] = no_parts
places_of_statements (statement ∷ rest) = parts_more (statement_places statement) (places_of_statements rest)
