use Rattle.template_compiler_emission.proofs.Putting.{puts_then}
use Rattle.template_compiler_statement_codegen.proofs.Keeping.{puts_kept}
use Rattle.template_compiler_statement_codegen.proofs.iterables.compile_kept_rounds.Goals as goal

pub returns-clause-put : goal.returns-clause-put
returns-clause-put c =
    puts_kept c.in_ok-asks.asks c.in_ok-asks.ensures.place c.in_ok-asks.ensures.put
    (puts_then c.in_ok-put.ensures.put c.in_ok-store.ensures.put)
    (puts_then c.in_ok-compile_expr.ensures.put c.in_ok-keep_or_drop.ensures.put) c.in_ok-put-2.ensures.put c.land.ensures.landed c.land.ensures.same
