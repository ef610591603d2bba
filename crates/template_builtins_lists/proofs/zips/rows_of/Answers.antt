use Rattle.std.proofs.Common.{◌≡◌, ℕ, drop, map, sym, ap, ◌∙◌}
use Rattle.std.proofs.lemmas.Result.{err_from_is_err_and}
use Rattle.std.specs.List.{range_with_len}
use Rattle.template_builtins_paths.specs.Items.{each}
use Rattle.template_builtins_paths.proofs.Each.{onto}
use Rattle.template_builtins_lists.specs.Zips as zips
use Rattle.template_builtins_lists.specs.Zips.{tuple_at}
use Rattle.template_builtins_lists.proofs.Zipping.{number_goes, number_fails, numbers_end}
use Rattle.template_builtins_lists.proofs.zips.rows_of.Goals as goal

pub loop-k-preserved : goal.loop-k-preserved
loop-k-preserved c =
    let lists = map (λ items. items.items) c.args.lists.now in
    rw c.in_ok-push.ensures.items
    (c.loop-k.invariant ∙ number_goes (tuple_at lists) c.shortest-count.result c.loop-k.k c.in_ok-tuple_at.field-0 c.loop-k.rows.items c.loop-k-test.true c.in_ok-tuple_at.ensures)

pub returns-in_err-tuple_at : goal.returns-in_err-tuple_at
returns-in_err-tuple_at c =
    let lists = map (λ items. items.items) c.args.lists.now in
    let n = c.shortest-count.result in
    let p = err_from_is_err_and c.from_residual-in_err-tuple_at.result c.from_residual-in_err-tuple_at.ensures.1 in
    let so_far : zips.rows_of lists ≡ onto c.loop-k.rows.items (each (tuple_at lists) (drop c.loop-k.k (range_with_len 0 n))) =
    ap (λ (m : ℕ). each (tuple_at lists) (range_with_len 0 m)) (sym c.shortest-count.ensures) ∙ c.loop-k.invariant in
    rw (so_far, p.1, p.2)
    (number_fails (tuple_at lists) n c.loop-k.k c.loop-k.rows.items _ c.loop-k-test.true c.in_err-tuple_at.ensures)

pub returns : goal.returns
returns c =
    let lists = map (λ items. items.items) c.args.lists.now in
    let n = c.shortest-count.result in
    ap (λ (m : ℕ). each (tuple_at lists) (range_with_len 0 m)) (sym c.shortest-count.ensures)
    ∙ c.loop-k.invariant
    ∙ numbers_end (tuple_at lists) n c.loop-k.k c.loop-k.rows.items c.loop-k-test.false
