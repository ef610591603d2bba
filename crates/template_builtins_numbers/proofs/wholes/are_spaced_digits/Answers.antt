use Rattle.std.proofs.Common.{rules, tests}
use Rattle.std.proofs.lemmas.Iterator.Search.{all_from_yields_List}
use Rattle.std.proofs.lemmas.Iterator.Splits.{YieldsList-from_slice_split}
use Rattle.template_builtins_numbers.specs.Wholes.{are_digits, are_spaced_digits, is_space}
use Rattle.template_builtins_numbers.proofs.wholes.are_spaced_digits.Goals as goal

pub returns : goal.returns
unfolding are_spaced_digits
returns c =
    all_from_yields_List (are_digits c.args.base) _ _ c.all.result c.all.ensures.ran
    (YieldsList-from_slice_split _ is_space c.args.text.now c.split.ensures.rest c.split.ensures.done c.split.ensures.closure (λ x b q k. search (rules, tests)))
    (λ x b q k. search (rules, tests))
