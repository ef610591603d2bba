use Rattle.std.proofs.Common.{◌||◌, false, List as Items, arith, refl}
use Rattle.template_compiler_tree.specs.View.{expression_of}
use Rattle.template_compiler_tree_statements.specs.View.{assignments_in}
use Rattle.template_compiler_tree.specs.declared.expressions.Expr.{Expr}
use Rattle.template_compiler_names.specs.Names.{is_stored_in, place_in_target, place_from, place_in}
use Rattle.template_compiler_names_statements.specs.Stores.{is_assigned}
use Rattle.template_compiler_names.proofs.Laws.{goes_end, goes_item}
use Rattle.template_compiler_names_statements.proofs.targets.use_assignments.Goals as goal

pub loop-assignment-preserved : goal.loop-assignment-preserved
loop-assignment-preserved c =
    goes_item (λ (x : Expr × Expr) places. place_in places (expression_of x.1) || place_in_target places (expression_of x.0))
    (λ (x : Expr × Expr) name. is_stored_in name (expression_of x.0))
    (λ (xs : Items (Expr × Expr)) name. place_from name (assignments_in xs) false) (λ (xs : Items (Expr × Expr)) name. is_assigned name (assignments_in xs))
    (λ x xs q. refl) (λ x xs q. refl)
    c.args.assignments.now c.loop-assignment.assignment-index c.assignment-item.result c.loop-assignment.names c.assign.new.names (omega arith)
    c.assignment-item.is c.loop-assignment.invariant c.in_ok-assign.ensures

pub returns : goal.returns
returns c =
    goes_end (λ (xs : Items (Expr × Expr)) name. place_from name (assignments_in xs) false)
    (λ (xs : Items (Expr × Expr)) name. is_assigned name (assignments_in xs)) (λ q. refl) (λ q. refl)
    c.args.assignments.now c.loop-assignment.assignment-index c.loop-assignment.names c.loop-assignment-test.false c.loop-assignment.invariant
