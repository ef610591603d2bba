use Rattle.std.proofs.Common.{Bool, ◌&&◌, ltb, sym, ap, ◌∙◌}
use Rattle.template_builtins_decimals.proofs.Powers.{great_power, great_zero}
use Rattle.template_builtins_decimals.proofs.numbers.to_great_power.Goals as goal

pub returns-then-adds : goal.returns-then-adds
returns-then-adds c k great =
    great_power c.args.method c.args.negative c.args.size k c.requires great
    (sym (c.has_any-adds.ensures ∙ ap (λ (b : Bool). b && ltb 0 c.args.size) c.goes_away.ensures) ∙ c.if-adds.true)

pub returns-else-adds : goal.returns-else-adds
returns-else-adds c k great =
    great_zero c.args.method c.args.negative c.args.size k c.requires great
    (sym (c.has_any-adds.ensures ∙ ap (λ (b : Bool). b && ltb 0 c.args.size) c.goes_away.ensures) ∙ c.if-adds.false)
