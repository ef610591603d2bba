-- The first of a node's places is its own span.
use Rattle.std.proofs.Common.{◌≡◌, refl}
use Rattle.template_compiler_tree.specs.Places.{expression_span}
use Rattle.template_compiler_tree_statements.specs.Places.{statement_span}
use Rattle.template_compiler_tree.specs.declared.expressions.Expr.{Expr, Var, Const, Slice', UnaryOp', BinOp', Compare', IfExpr', Filter', Test', GetAttr', GetItem', Call', List', Tuple', Map'}
use Rattle.template_compiler_tree_statements.specs.declared.statements.Stmt.{Stmt, Template', EmitExpr, EmitRaw, ForLoop', IfCond', WithBlock', Set, SetBlock', AutoEscape', FilterBlock', Block', Import, FromImport, Extends, Include, Macro', CallBlock', Continue, Break, Do}
use Rattle.template_compiler_tree.specs.ExpressionPlaces.{places_of}
use Rattle.template_compiler_tree.specs.NodePlaces.{span_at}
use Rattle.template_compiler_grammar.specs.TreeStatements.{statement_places}

pub expression_first : (e : Expr) → span_at (places_of e) ≡ expression_span e
expression_first (Var _) = refl
expression_first (Const _) = refl
expression_first (Slice' _ _ _ _ _ _) = refl
expression_first (UnaryOp' _ _ _ _) = refl
expression_first (BinOp' _ _ _ _ _) = refl
expression_first (Compare' _ _ _) = refl
expression_first (IfExpr' _ _ _ _ _) = refl
expression_first (Filter' _ _ _ _ _ _) = refl
expression_first (Test' _ _ _ _ _ _) = refl
expression_first (GetAttr' _ _ _ _) = refl
expression_first (GetItem' _ _ _ _) = refl
expression_first (Call' _ _ _ _ _) = refl
expression_first (List' _ _ _ _) = refl
expression_first (Tuple' _ _ _ _) = refl
expression_first (Map' _ _ _ _ _ _) = refl

pub statement_first : (s : Stmt) → span_at (statement_places s) ≡ statement_span s
statement_first (Template' _ _ _) = refl
statement_first (EmitExpr _) = refl
statement_first (EmitRaw _) = refl
statement_first (ForLoop' _ _ _ _ _ _ _ _ _ _) = refl
statement_first (IfCond' _ _ _ _ _ _ _) = refl
statement_first (WithBlock' _ _ _ _ _) = refl
statement_first (Set _) = refl
statement_first (SetBlock' _ _ _ _ _ _) = refl
statement_first (AutoEscape' _ _ _ _ _) = refl
statement_first (FilterBlock' _ _ _ _ _) = refl
statement_first (Block' _ _ _ _ _ _) = refl
statement_first (Import _) = refl
statement_first (FromImport _) = refl
statement_first (Extends _) = refl
statement_first (Include _) = refl
statement_first (Macro' _ _ _ _ _ _ _) = refl
statement_first (CallBlock' _ _ _) = refl
statement_first (Continue _) = refl
statement_first (Break _) = refl
statement_first (Do _) = refl
