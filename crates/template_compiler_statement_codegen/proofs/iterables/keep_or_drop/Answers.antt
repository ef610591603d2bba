use Rattle.template_compiler_code.specs.Listing.{code_in}
use Rattle.template_compiler_emission.specs.declared.leaps.Leap.TheVariants.{Always, IfFalse}
use Rattle.template_compiler_emission.proofs.Putting.{puts_either}
use Rattle.template_compiler_expression_codegen.proofs.Putting.{landed_at}
use Rattle.template_compiler_statement_codegen.proofs.iterables.keep_or_drop.Goals as goal

pub returns-clause-put : goal.returns-clause-put
returns-clause-put c =
    let drops = landed_at IfFalse c.in_ok-drops.drops (code_in c.args.code.now) (code_in c.reserve-2.new.code) (code_in c.land.new.code)
    c.in_ok-drops.ensures.place c.land.ensures.landed in
    let ends = landed_at Always c.in_ok-end.end (code_in c.keep.new.code) (code_in c.put.new.code) (code_in c.land-2.new.code)
    c.in_ok-end.ensures.place c.land-2.ensures.landed in
    puts_either c.in_ok-drops.ensures.put c.in_ok-keep.ensures.put c.in_ok-end.ensures.put drops c.land.ensures.same c.in_ok-put.ensures.put ends
    c.land-2.ensures.same
