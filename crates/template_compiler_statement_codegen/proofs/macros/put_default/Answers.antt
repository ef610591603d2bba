use Rattle.template_compiler_code.specs.Listing.{code_in}
use Rattle.template_compiler_emission.specs.declared.leaps.Leap.TheVariants.{IfFalse}
use Rattle.template_compiler_emission.proofs.Putting.{puts_skipped, puts_then}
use Rattle.template_compiler_expression_codegen.proofs.Putting.{landed_at}
use Rattle.template_compiler_statement_codegen.proofs.macros.put_default.Goals as goal

pub returns-clause-put : goal.returns-clause-put
returns-clause-put c =
    let landed = landed_at IfFalse c.in_ok-leap.leap (code_in c.put-2.new.code) (code_in c.compile_expr.new.code) (code_in c.land.new.code)
    c.in_ok-leap.ensures.place c.land.ensures.landed in
    puts_then c.in_ok-put.ensures.put (puts_then c.in_ok-put-2.ensures.put
    (puts_skipped IfFalse c.in_ok-leap.ensures.put (puts_then c.in_ok-put-3.ensures.put c.in_ok-compile_expr.ensures.put) landed c.land.ensures.same))
