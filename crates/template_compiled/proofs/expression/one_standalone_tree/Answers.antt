use Rattle.template_compiled.proofs.Alone as alone
use Rattle.template_compiled.proofs.expression.one_standalone_tree.Goals as goal

pub returns : goal.returns
returns c = alone.one_expression
