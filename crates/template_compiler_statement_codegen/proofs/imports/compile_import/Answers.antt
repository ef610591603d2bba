use Rattle.std.proofs.lemmas.Result.{on_ok_weaker}
use Rattle.template_compiler_emission.proofs.Putting.{puts_then}
use Rattle.template_compiler_statement_codegen.proofs.imports.compile_import.Goals as goal

pub returns-clause-put : goal.returns-clause-put
returns-clause-put c = on_ok_weaker c.store.result (λ stored.
    puts_then c.in_ok-put.ensures.put (puts_then c.in_ok-compile_apart.ensures.put (puts_then c.in_ok-put-2.ensures.put
    (puts_then c.in_ok-put-3.ensures.put (puts_then c.in_ok-put-4.ensures.put stored))))) c.store.ensures.put
