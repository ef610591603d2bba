use Rattle.std.proofs.Common.{sym}
use Rattle.template_compiler_tree.proofs.Arms.{chain_description}
use Rattle.template_compiler_tree.proofs.expressions.Expr.description.Goals as goal

pub returns-in-Compare : goal.returns-in-Compare
returns-in-Compare c = rw c.in-Compare.is (sym (chain_description c.in-Compare.field-0.value.node))
