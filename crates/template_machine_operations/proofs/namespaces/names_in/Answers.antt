use Rattle.std.proofs.Common.{◌≡◌, ◌+◌, ◌∷◌, sym, subst, drop, add-one}
use Rattle.std.proofs.Math.Seq.{drop-cons}
use Rattle.template_values_core.specs.Shape.{pairs_in}
use Rattle.template_machine_operations.proofs.Naming.{names_next}
use Rattle.template_machine_operations.proofs.namespaces.names_in.Goals as goal

pub loop-entry-preserved : goal.loop-entry-preserved
loop-entry-preserved c =
    let entries = c.args.entries.now in
    let index = c.loop-entry.entry-index in
    let here = c.entry-item.result in
    let opened : drop index entries ≡ here ∷ drop (index + 1) entries =
    subst (λ entry. drop index entries ≡ entry ∷ drop (index + 1) entries) (sym c.entry-item.is) (rw add-one (drop-cons entries index here c.loop-entry-test.true)) in
    names_next (pairs_in c.loop-entry.names.items) _ _ here _ (drop (index + 1) entries) c.in_ok-push_name.ensures.put opened c.loop-entry.invariant
