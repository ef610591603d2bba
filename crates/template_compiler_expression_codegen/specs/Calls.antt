-- The tree of a call.
use Rattle.template_compiler_tree.specs.Tree.{Expression, call}
use Rattle.template_compiler_tree.specs.View.{expression_of, arguments_in}
use Rattle.template_compiler_tree.specs.declared.calls.Call.{Call}

abbrev pub call_of : Call → Expression
call_of c = call (expression_of c.expr) (arguments_in c.args.items)
