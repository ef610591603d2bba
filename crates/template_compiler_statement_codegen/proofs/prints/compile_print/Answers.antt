use Rattle.std.proofs.Common.{sym, ap, ◌∙◌}
use Rattle.std.proofs.lemmas.Result.{on_ok_weaker}
use Rattle.template_compiler_tree.specs.View.{expression_of}
use Rattle.template_compiler_walk.specs.Statements.{prints_value, prints_block, prints_super, prints_rounds}
use Rattle.template_compiler_statement_codegen.specs.Printing.{printed_as}
use Rattle.template_compiler_statement_codegen.specs.declared.prints.Printing.{Printing}
use Rattle.template_compiler_statement_codegen.proofs.Writing.{puts_printed, rounds_run}
use Rattle.template_compiler_statement_codegen.proofs.prints.compile_print.Goals as goal

pub returns-in-Value-clause-put : goal.returns-in-Value-clause-put
returns-in-Value-clause-put c = on_ok_weaker c.print_value.result (λ put.
    puts_printed (expression_of c.args.expr.now) prints_value (ap (λ (p : Printing). printed_as p) (sym c.in-Value.is) ∙ c.printing_of.ensures) put) c.print_value.ensures.put

pub returns-in-Block-clause-put : goal.returns-in-Block-clause-put
returns-in-Block-clause-put c = on_ok_weaker c.put.result (λ put.
    puts_printed (expression_of c.args.expr.now) (prints_block c.in-Block.name.now) (ap (λ (p : Printing). printed_as p) (sym c.in-Block.is) ∙ c.printing_of.ensures) put) c.put.ensures.put

pub returns-in-Super-clause-put : goal.returns-in-Super-clause-put
returns-in-Super-clause-put c = on_ok_weaker c.put-in-Super.result (λ put.
    puts_printed (expression_of c.args.expr.now) prints_super (ap (λ (p : Printing). printed_as p) (sym c.in-Super.is) ∙ c.printing_of.ensures) put) c.put-in-Super.ensures.put

pub print_rounds-requires : goal.print_rounds-requires
print_rounds-requires c =
    rounds_run (expression_of c.args.expr.now) (expression_of c.in-Rounds.value.now)
    (ap (λ (p : Printing). printed_as p) (sym c.in-Rounds.is) ∙ c.printing_of.ensures) c.requires

pub returns-in-Rounds-clause-put : goal.returns-in-Rounds-clause-put
returns-in-Rounds-clause-put c = on_ok_weaker c.print_rounds.result (λ put.
    puts_printed (expression_of c.args.expr.now) (prints_rounds (expression_of c.in-Rounds.value.now))
    (ap (λ (p : Printing). printed_as p) (sym c.in-Rounds.is) ∙ c.printing_of.ensures) put) c.print_rounds.ensures.put
