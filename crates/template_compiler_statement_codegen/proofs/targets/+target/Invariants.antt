-- The targets so far, behind the instruction that unpacks. Targets in a list are smaller than the list.
use Rattle.std.proofs.Common.{◌+◌, ◌*◌, take}
use Rattle.template_compiler_tree.specs.View.{expressions_in}
use Rattle.template_compiler_tree.specs.declared.expressions.Expr.{size-Expr}
use Rattle.template_compiler_walk.specs.Statements.{number_of}
use Rattle.template_compiler_code.specs.Code.{unpack_list}
use Rattle.template_compiler_codegen.specs.Expressions.{one, then_code}
use Rattle.template_compiler_codegen.specs.Statements.{targets_code}
use Rattle.template_compiler_emission.specs.Puts.{Puts}
use Rattle.template_compiler_expression_codegen.proofs.Sizes.{items_deep}
use Rattle.template_compiler_statement_codegen.proofs.targets.+target.Given as goal

abbrev pub decreases-store : goal.decreases-store
decreases-store l = 2 * size-Expr l.target.now + 1

abbrev pub decreases-store_items : goal.decreases-store_items
decreases-store_items l = 2 * items_deep l.targets.now + 2

abbrev pub invariant-store_items-loop-target : goal.invariant-store_items-loop-target
invariant-store_items-loop-target l =
    Puts (then_code (one (unpack_list (number_of (expressions_in l.targets)))) (targets_code (expressions_in (take l.target-index l.targets))))
    l.fn.code l.code
