-- The stretch of the source that a statement was read from.
use Rattle.template_compiler_tree.specs.declared.span.Span.{Span}
use Rattle.template_compiler_tree_statements.specs.declared.statements.Stmt.{Stmt, Template', EmitExpr, EmitRaw, ForLoop', IfCond', WithBlock', Set, SetBlock', AutoEscape', FilterBlock', Block', Import, FromImport, Extends, Include, Macro', CallBlock', Continue, Break, Do}

abbrev pub statement_span : Stmt → Span
statement_span (Template' shape children span) = span
statement_span (EmitExpr n) = n.span
statement_span (EmitRaw n) = n.span
statement_span (ForLoop' p target iter filter recursive shape body shape' else_body span) = span
statement_span (IfCond' p expr shape body shape' else_body span) = span
statement_span (WithBlock' p assignments shape body span) = span
statement_span (Set n) = n.value.span
statement_span (SetBlock' p target filter shape body span) = span
statement_span (AutoEscape' p enabled shape body span) = span
statement_span (FilterBlock' p filter shape body span) = span
statement_span (Block' p name required shape body span) = span
statement_span (Import n) = n.value.span
statement_span (FromImport n) = n.value.span
statement_span (Extends n) = n.value.span
statement_span (Include n) = n.value.span
statement_span (Macro' p name args defaults shape body span) = span
statement_span (CallBlock' p n span) = span
statement_span (Continue n) = n.span
statement_span (Break n) = n.span
statement_span (Do n) = n.span
