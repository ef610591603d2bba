use Rattle.std.proofs.Common.{rules, arith}
use Rattle.std.proofs.lemmas.Grind.{common_steps}
use Rattle.template_values_operators.proofs.Repeats.{text_repeated-often}
use Rattle.template_values_operators.proofs.products.repeated_text.Goals as goal

pub returns-clause-gives : goal.returns-clause-gives
returns-clause-gives c =
    rw (text_repeated-often c.in-Some.rounds c.args.count c.args.text.now c.in-Some.ensures.same c.in-Some.ensures.within)
    first_of (search rules, grind (arith, common_steps))

pub returns-clause-refused : goal.returns-clause-refused
returns-clause-refused c =
    rw (text_repeated-often c.in-Some.rounds c.args.count c.args.text.now c.in-Some.ensures.same c.in-Some.ensures.within) tt
