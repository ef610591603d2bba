-- The literals so far, and those that are left.
use Rattle.std.proofs.Common.{◌≡◌, drop}
use Rattle.template_compiler_tree.specs.View.{expressions_in}
use Rattle.template_compiler_walk.specs.Constants.{literals_of}
use Rattle.template_compiler_folding.proofs.Joined.{joined}
use Rattle.template_compiler_folding.proofs.literal_values.literals.Given as goal

abbrev pub invariant-loop-expr : goal.invariant-loop-expr
invariant-loop-expr l = record {
  literals : joined l.values.items (literals_of (expressions_in (drop l.expr-index l.exprs))) ≡ literals_of (expressions_in l.exprs);
}
