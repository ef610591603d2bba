use Rattle.template_compiler_expression_codegen.proofs.Putting.{puts_as, puts_behind}
use Rattle.template_compiler_expression_codegen.proofs.operators.end_operator.Goals as goal

pub returns-in-Some-clause-put : goal.returns-in-Some-clause-put
returns-in-Some-clause-put c = record { kept = c.truncate-in-Some.ensures.kept; same = c.truncate-in-Some.ensures.same; places = c.truncate-in-Some.ensures.places }

pub returns-in_ok-push-in-None-clause-put : goal.returns-in_ok-push-in-None-clause-put
returns-in_ok-push-in-None-clause-put c =
    puts_behind c.args.right c.in_ok-load-in-None.ensures.put (puts_as c.operator_instruction.ensures c.in_ok-push-in-None.ensures.put)
