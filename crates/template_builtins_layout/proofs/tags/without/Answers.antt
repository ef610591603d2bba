use Rattle.template_builtins_layout.proofs.Tagging.{all_left, none_left, one_less}
use Rattle.template_builtins_layout.proofs.tags.without.Goals as goal

pub loop-before-init : goal.loop-before-init
loop-before-init c = (c.utf8.text, all_left _ _ _ _ c.new-out.ensures.bytes)

pub loop-before-preserved : goal.loop-before-preserved
loop-before-preserved c = (
  c.in-Some.ensures.rest,
  one_less _ _ _ _ _ _ _ _ c.in-Some.ensures.less c.in-Some.ensures.parts c.in_ok-push_str.ensures.bytes c.loop-before.invariant.1,
)

pub returns : goal.returns
returns c = none_left _ _ _ _ _ _ c.in_default.ensures.parts c.in_ok-push_str-2.ensures.bytes c.loop-before.invariant.1
