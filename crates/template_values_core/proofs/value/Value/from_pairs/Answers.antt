use Rattle.template_values_core.proofs.PairLemmas.{named_next}
use Rattle.template_values_core.proofs.value.Value.from_pairs.Goals as goal

pub loop-name-preserved : goal.loop-name-preserved
loop-name-preserved c =
    rw c.in_ok-push.ensures.items
    (named_next c.loop-name.entries.items c.loop-name.yielded c.in-Some.name c.in_ok-key.key c.in-Some.value
    c.loop-name.invariant c.in_ok-key.ensures.made)
