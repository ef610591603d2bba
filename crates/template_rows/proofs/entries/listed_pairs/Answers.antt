use Rattle.std.proofs.Common.{◌≡◌, ◌+◌, ◌∷◌, sym, subst, drop, add-one}
use Rattle.std.proofs.Math.Seq.{drop-cons}
use Rattle.template_rows.proofs.Listed.{pairs-one}
use Rattle.template_rows.proofs.entries.listed_pairs.Goals as goal

pub loop-pair-preserved : goal.loop-pair-preserved
loop-pair-preserved c =
    let pairs = c.args.pairs.now in
    let index = c.loop-pair.pair-index in
    let here = c.pair-item.result in
    let opened : drop index pairs ≡ here ∷ drop (index + 1) pairs =
    subst (λ pair. drop index pairs ≡ pair ∷ drop (index + 1) pairs) (sym c.pair-item.is) (rw add-one (drop-cons pairs index here c.loop-pair-test.true)) in
    rw c.in_ok-push.ensures.items (pairs-one c.loop-pair.listed.items c.in_ok-pair_of.field-0 here (drop (index + 1) pairs) _ c.in_ok-pair_of.ensures.is (rw opened at c.loop-pair.invariant))
