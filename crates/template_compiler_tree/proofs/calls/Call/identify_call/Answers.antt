use Rattle.template_compiler_tree.specs.View.{arguments_in}
use Rattle.template_compiler_tree.proofs.Arms.{other_callee}
use Rattle.template_compiler_tree.proofs.calls.Call.identify_call.Goals as goal

pub returns-in_default : goal.returns-in_default
returns-in_default c =
    other_callee c.args.self.now.expr (arguments_in c.args.self.now.args.items) c.in_default.not-Var c.in_default.not-GetAttr
