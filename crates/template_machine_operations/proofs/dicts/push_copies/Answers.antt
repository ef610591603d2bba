use Rattle.std.proofs.Common.{◌≡◌, ◌+◌, ◌∷◌, sym, subst, drop, add-one}
use Rattle.std.proofs.Math.Seq.{drop-cons}
use Rattle.template_machine_operations.proofs.Mapping.{copied_next}
use Rattle.template_machine_operations.proofs.dicts.push_copies.Goals as goal

pub loop-entry-preserved : goal.loop-entry-preserved
loop-entry-preserved c =
    let more = c.args.more.now in
    let index = c.loop-entry.entry-index in
    let here = c.entry-item.result in
    let opened : drop index more ≡ here ∷ drop (index + 1) more =
    subst (λ entry. drop index more ≡ entry ∷ drop (index + 1) more) (sym c.entry-item.is) (rw add-one (drop-cons more index here c.loop-entry-test.true)) in
    rw c.in_ok-push.ensures.items
    (copied_next c.loop-entry.entries.items _ c.in_ok-key.key c.in_ok-value.value here _ (drop (index + 1) more) c.in_ok-key.ensures.same
    c.in_ok-value.ensures.same opened c.loop-entry.invariant)
