use Rattle.std.proofs.lemmas.Result.{on_ok_weaker}
use Rattle.template_compiler_emission.proofs.Putting.{puts_then}
use Rattle.template_compiler_statement_codegen.proofs.iterables.compile_kept.Goals as goal

pub returns-clause-put : goal.returns-clause-put
returns-clause-put c = on_ok_weaker c.put-4.result (λ last.
    puts_then c.in_ok-put.ensures.put
    (puts_then c.in_ok-compile_expr.ensures.put
    (puts_then c.in_ok-put-2.ensures.put
    (puts_then c.in_ok-compile_kept_rounds.ensures.put (puts_then c.in_ok-put-3.ensures.put last))))) c.put-4.ensures.put
