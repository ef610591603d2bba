use Rattle.std.proofs.Common.{◌||◌, List as Items, ap}
use Rattle.template_compiler_tree.specs.View.{arguments_in, expression_of}
use Rattle.template_compiler_tree.specs.declared.calls.CallArg.{CallArg}
use Rattle.template_compiler_names.specs.Names.{place_in, place_in_arguments}
use Rattle.template_compiler_names.proofs.Laws.{uses_then_on}
use Rattle.template_compiler_names_statements.proofs.parts.use_call.Goals as goal

pub returns : goal.returns
returns c =
    uses_then_on _ c.args.names.now c.use_expression.new.names c.use_arguments.new.names c.use_arguments.result c.in_ok-use_expression.ensures
    c.use_arguments.ensures
    (λ q. ap (λ (as' : Items CallArg). place_in q (expression_of c.args.call.now.expr) || place_in_arguments q (arguments_in as')) c.deref.ensures.value)
