use Rattle.std.proofs.Common.{rules, arith}
use Rattle.std.proofs.lemmas.Grind.{common_steps}
use Rattle.template_values_operators.proofs.Repeats.{list_repeated-made, list_repeated-often}
use Rattle.template_values_operators.proofs.products.repeated_list.Goals as goal

pub returns-in_err-repeated-clause-refused : goal.returns-in_err-repeated-clause-refused
returns-in_err-repeated-clause-refused c =
    rw (list_repeated-made c.in-Some.rounds c.args.count c.args.items.now c.in-Some.ensures.same c.in-Some.ensures.within c.requires) tt

pub returns-in_err-push_copies-clause-refused : goal.returns-in_err-push_copies-clause-refused
returns-in_err-push_copies-clause-refused c =
    rw (list_repeated-made c.in-Some.rounds c.args.count c.args.items.now c.in-Some.ensures.same c.in-Some.ensures.within c.requires) tt

pub returns-clause-gives : goal.returns-clause-gives
returns-clause-gives c =
    rw (list_repeated-often c.in-Some.rounds c.args.count c.args.items.now c.in-Some.ensures.same c.in-Some.ensures.within)
    first_of (search rules, grind (arith, common_steps))

pub returns-clause-refused : goal.returns-clause-refused
returns-clause-refused c =
    rw (list_repeated-made c.in-Some.rounds c.args.count c.args.items.now c.in-Some.ensures.same c.in-Some.ensures.within c.requires) tt
