use Rattle.std.proofs.Common.{ap}
use Rattle.std.proofs.lemmas.Result.{on_ok_weaker}
use Rattle.template_values_model.specs.Val.{Val}
use Rattle.template_compiler_code.specs.Code.{load_const}
use Rattle.template_compiler_emission.proofs.Putting.{puts_then}
use Rattle.template_compiler_expression_codegen.proofs.Putting.{puts_as}
use Rattle.template_compiler_statement_codegen.proofs.iterables.keep.Goals as goal

pub returns-clause-put : goal.returns-clause-put
returns-clause-put c = on_ok_weaker c.put-3.result (λ last.
    puts_then c.in_ok-put.ensures.put
    (puts_then (puts_as (ap (λ (v : Val). load_const v) c.from_int.ensures) c.in_ok-put-2.ensures.put) last)) c.put-3.ensures.put
