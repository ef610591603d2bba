-- What a source is read to has a walk.
use Rattle.std.proofs.Common.{ℕ, List, Result, Ok, Err, IfOk}
use Rattle.template_compiler_tree.specs.View.{expression_of}
use Rattle.template_compiler_tree.specs.declared.expressions.Expr.{Expr}
use Rattle.template_compiler_walk.specs.Runnable.{IsRunnable}
use Rattle.template_compiler_tree_statements.specs.View.{statement_of}
use Rattle.template_compiler_tree_statements.specs.declared.statements.Stmt.{Stmt}
use Rattle.template_compiler_generator.specs.Alone.{CanStand}
use Rattle.template_compiler_generator.proofs.Accepted.{tree_can_stand}
use Rattle.template_compiler_sources.specs.Source.{IsExpressionSource, IsSource}
use Rattle.template_compiler_syntax.specs.Syntax.{Syntax}
use Rattle.template_compiled.proofs.Alone as alone
use Rattle.template_compiled.proofs.Trees.{source_runs}

pub read_runs : {E : Type 0} (x : Syntax) (text : List ℕ) (r : Result Stmt E) → IfOk r (λ tree. IsSource x text (statement_of tree)) →
    IfOk r (λ tree. CanStand (statement_of tree))
read_runs x text (Ok tree) is = tree_can_stand (statement_of tree) (source_runs (statement_of tree) is)
read_runs x text (Err error) is = tt

pub read_alone_runs : {E : Type 0} (text : List ℕ) (r : Result Expr E) → IfOk r (λ expr. IsExpressionSource text (expression_of expr)) →
    IfOk r (λ expr. IsRunnable (expression_of expr))
read_alone_runs text (Ok expr) is = alone.source_runs is
read_alone_runs text (Err error) is = tt
