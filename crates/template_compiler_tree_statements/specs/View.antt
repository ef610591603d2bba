-- The trees in the nodes of statements: their places in the source are left out.
use Rattle.std.specs.Prelude.{List, [], ◌∷◌, Option}
use Rattle.template_compiler_tree.specs.Tree.{Statement, template, raw, print, for_loop, if_condition, with_block, set, set_block, auto_escape, filter_block, block, import, from_import, extends, include, macro, call_block, continue_loop, break_loop, do_call, Statements, no_statements, statements_more, Assignments, no_assignments, assignments_more, Imports, no_imports, imports_more}
use Rattle.template_compiler_tree.specs.View.{expression_of, optional_in, expressions_in, arguments_in}
use Rattle.template_compiler_tree.specs.declared.expressions.Expr.{Expr}
use Rattle.template_compiler_tree_statements.specs.declared.statements.CallBlock.{CallBlock, CallBlock' as called}
use Rattle.template_compiler_tree_statements.specs.declared.statements.Stmt.{Stmt, Template', EmitExpr, EmitRaw, ForLoop', IfCond', WithBlock', Set, SetBlock', AutoEscape', FilterBlock', Block', Import, FromImport, Extends, Include, Macro', CallBlock', Continue, Break, Do, Row_of-Stmt, end_of-Stmt, more_of-Stmt}

abbrev pub assignments_in : List (Expr × Expr) → Assignments
assignments_in [] = no_assignments
assignments_in (pair ∷ rest) =
    assignments_more (expression_of pair.0) (expression_of pair.1) (assignments_in rest)

abbrev pub imports_in : List (Expr × Option Expr) → Imports
imports_in [] = no_imports
imports_in (pair ∷ rest) = imports_more (expression_of pair.0) (optional_in pair.1) (imports_in rest)

abbrev mutual
  pub statement_of : Stmt → Statement
  statement_of (Template' shape children span) = template (statements_of children)
  statement_of (EmitExpr n) = print (expression_of n.node.expr)
  statement_of (EmitRaw n) = raw n.node.raw.now
  statement_of (ForLoop' p target iter filter recursive shape body shape' else_body span) =
      for_loop (expression_of target) (expression_of iter) (optional_in filter) recursive (statements_of body)
      (statements_of else_body)
  statement_of (IfCond' p expr shape body shape' else_body span) =
      if_condition (expression_of expr) (statements_of body) (statements_of else_body)
  statement_of (WithBlock' p assignments shape body span) =
      with_block (assignments_in assignments.items) (statements_of body)
  statement_of (Set n) = set (expression_of n.value.node.target) (expression_of n.value.node.expr)
  statement_of (SetBlock' p target filter shape body span) =
      set_block (expression_of target) (optional_in filter) (statements_of body)
  statement_of (AutoEscape' p enabled shape body span) = auto_escape (expression_of enabled) (statements_of body)
  statement_of (FilterBlock' p filter shape body span) = filter_block (expression_of filter) (statements_of body)
  statement_of (Block' p name required shape body span) = block name.now required (statements_of body)
  statement_of (Import n) = import (expression_of n.value.node.expr) (expression_of n.value.node.name)
  statement_of (FromImport n) = from_import (expression_of n.value.node.expr) (imports_in n.value.node.names.items)
  statement_of (Extends n) = extends (expression_of n.value.node.name)
  statement_of (Include n) = include (expression_of n.value.node.name) n.value.node.ignore_missing
  statement_of (Macro' p name args defaults shape body span) =
      macro name.now (expressions_in args.items) (expressions_in defaults.items) (statements_of body)
  statement_of (CallBlock' p n span) = call_block_of n
  statement_of (Continue n) = continue_loop
  statement_of (Break n) = break_loop
  statement_of (Do n) = do_call (expression_of n.node.call.value.node.expr) (arguments_in n.node.call.value.node.args.items)

  call_block_of : CallBlock → Statement
  call_block_of (called call p name args defaults shape body span) =
      call_block (expression_of call.value.node.expr) (arguments_in call.value.node.args.items)
      (expressions_in args.items) (expressions_in defaults.items) (statements_of body)

  pub statements_of : {n : _} → Row_of-Stmt n → Statements
  statements_of end_of-Stmt = no_statements
  statements_of (more_of-Stmt statement rest) = statements_more (statement_of statement) (statements_of rest)
