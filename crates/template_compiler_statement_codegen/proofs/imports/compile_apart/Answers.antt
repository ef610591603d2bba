use Rattle.std.proofs.lemmas.Result.{on_ok_weaker}
use Rattle.template_compiler_emission.proofs.Putting.{puts_then}
use Rattle.template_compiler_statement_codegen.proofs.imports.compile_apart.Goals as goal

pub returns-clause-put : goal.returns-clause-put
returns-clause-put c = on_ok_weaker c.put-2.result (λ last.
    puts_then c.in_ok-put.ensures.put (puts_then c.in_ok-compile_expr.ensures.put last)) c.put-2.ensures.put
