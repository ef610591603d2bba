-- The stretch of the source that a node was read from.
use Rattle.template_compiler_tree.specs.declared.span.Span.{Span}
use Rattle.template_compiler_tree.specs.declared.expressions.Expr.{Expr, Var, Const, Slice', UnaryOp', BinOp', Compare', IfExpr', Filter', Test', GetAttr', GetItem', Call', List', Tuple', Map'}

abbrev pub expression_span : Expr → Span
expression_span (Var n) = n.span
expression_span (Const n) = n.value.span
expression_span (Slice' p expr start stop step span) = span
expression_span (UnaryOp' p op expr span) = span
expression_span (BinOp' p op left right span) = span
expression_span (Compare' p compare span) = span
expression_span (IfExpr' p test true_expr false_expr span) = span
expression_span (Filter' p name expr shape args span) = span
expression_span (Test' p name expr shape args span) = span
expression_span (GetAttr' p expr name span) = span
expression_span (GetItem' p expr subscript span) = span
expression_span (Call' p expr shape args span) = span
expression_span (List' p shape items span) = span
expression_span (Tuple' p shape items span) = span
expression_span (Map' p shape keys shape' values span) = span
