use Rattle.template_compiler_emission.proofs.Putting.{puts_then}
use Rattle.template_compiler_expression_codegen.proofs.Begun.{counted_by}
use Rattle.template_compiler_expression_codegen.proofs.calls.begin_arguments.Goals as goal

pub returns-clause-begun : goal.returns-clause-begun
returns-clause-begun c = record { passed = counted_by c.in_ok-passed.ensures.put; named = counted_by c.in_ok-named.ensures.put }

pub returns-clause-put : goal.returns-clause-put
returns-clause-put c = puts_then c.in_ok-passed.ensures.put.put (puts_then c.in_ok-named.ensures.put.put c.in_ok-put_keyword.ensures.put)
