use Rattle.std.proofs.Common.{List as Items, Option, arith, refl}
use Rattle.template_compiler_tree.specs.View.{expression_of, optional_in}
use Rattle.template_compiler_tree_statements.specs.View.{imports_in}
use Rattle.template_compiler_tree.specs.declared.expressions.Expr.{Expr}
use Rattle.template_compiler_names.specs.Names.{is_imported}
use Rattle.template_compiler_names.specs.Goes.{no_place}
use Rattle.template_compiler_names_statements.specs.Stores.{is_bound}
use Rattle.template_compiler_names.proofs.Laws.{goes_end, goes_item}
use Rattle.template_compiler_names_statements.proofs.Storing.{import_more, none_used}
use Rattle.template_compiler_names_statements.proofs.targets.bind_imports.Goals as goal

pub loop-import-preserved : goal.loop-import-preserved
loop-import-preserved c =
    goes_item (λ (x : Expr × Option Expr). no_place) (λ (x : Expr × Option Expr) name. is_bound name (expression_of x.0) (optional_in x.1))
    (λ (xs : Items (Expr × Option Expr)). no_place) (λ (xs : Items (Expr × Option Expr)) name. is_imported name (imports_in xs))
    (λ x xs q. none_used (is_bound q.name (expression_of x.0) (optional_in x.1))) import_more
    c.args.imports.now c.loop-import.import-index c.import-item.result c.loop-import.names c.bind_import.new.names (omega arith)
    c.import-item.is c.loop-import.invariant c.in_ok-bind_import.ensures

pub returns : goal.returns
returns c =
    goes_end (λ (xs : Items (Expr × Option Expr)). no_place) (λ (xs : Items (Expr × Option Expr)) name. is_imported name (imports_in xs)) (λ q. refl) (λ q. refl)
    c.args.imports.now c.loop-import.import-index c.loop-import.names c.loop-import-test.false c.loop-import.invariant
