use Rattle.std.proofs.lemmas.Result.{on_ok_weaker}
use Rattle.template_compiler_tree.specs.View.{arguments_in, expression_of}
use Rattle.template_compiler_expression_codegen.proofs.Begun.{puts_ended}
use Rattle.template_compiler_expression_codegen.proofs.Putting.{puts_as}
use Rattle.template_compiler_expression_codegen.proofs.calls.end_call.Goals as goal

pub returns-clause-put : goal.returns-clause-put
returns-clause-put c = on_ok_weaker c.push.result (λ last.
    puts_ended (expression_of c.args.call.now.expr) (arguments_in c.args.call.now.args.items) c.args.begun
    c.in_ok-entries.entries c.in_ok-maps.maps c.in_ok-merged.merged c.in_ok-values.values c.in_ok-count.count c.requires
    c.in_ok-entries.ensures.counted c.in_ok-maps.ensures.counted c.in_ok-merged.ensures.counted c.in_ok-values.ensures.counted
    c.in_ok-count.ensures.counted c.in_ok-maps.ensures.put c.in_ok-merged.ensures.put c.in_ok-count.ensures.put
    (puts_as c.call_instruction.ensures last)) c.push.ensures.put
