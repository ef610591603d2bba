use Rattle.template_compiler_expression_codegen.proofs.Putting.{puts_as, puts_behind}
use Rattle.template_compiler_expression_codegen.proofs.chains.end_link.Goals as goal

pub returns-in-Some-clause-put : goal.returns-in-Some-clause-put
returns-in-Some-clause-put c =
    puts_behind c.args.right c.in_ok-load_copy.ensures.put (puts_as c.comparison_instruction.ensures c.in_ok-push.ensures.put)

pub returns-in-None-clause-put : goal.returns-in-None-clause-put
returns-in-None-clause-put c =
    puts_behind c.args.right c.in_ok-load_copy.ensures.put (puts_as c.comparison_instruction.ensures c.in_ok-push.ensures.put)
