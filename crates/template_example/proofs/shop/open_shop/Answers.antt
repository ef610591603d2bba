use Rattle.std.proofs.Common.{◌∙◌, ap, codes}
use Rattle.template_machine.specs.Extras.{Extras}
use Rattle.template_example.proofs.shop.open_shop.Goals as goal

-- what comes behind the filter leaves it
pub returns : goal.returns
returns c = record {
  label = record { alloc = c.args.alloc; prefix = c.in_ok-prefix.prefix };
  stands = ap (λ (x : Extras _ _ _ _ _). x.filters (codes "label")) c.in_ok-add_test.ensures.others
      ∙ (ap (λ (x : Extras _ _ _ _ _). x.filters (codes "label")) c.in_ok-add_function.ensures.stands
      ∙ c.in_ok-add_filter.ensures.stands (codes "label"));
  prefixed = c.in_ok-prefix.ensures.ok;
}
