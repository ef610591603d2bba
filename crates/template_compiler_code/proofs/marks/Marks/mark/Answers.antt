use Rattle.std.proofs.Common.{true, false, leb, ◌≡◌, length, ◌≤◌, sym, subst, ◌∙◌, rules}
use Rattle.std.specs.List.Sorted.{IsNonDecreasingBy, IsPartitionPoint}
use Rattle.std.proofs.lemmas.List.Sorted.{IsPartitionPoint-from_clause, IsPartitionedBy-leb}
use Rattle.template_compiler_code.proofs.Marking.{mark_at-first}
use Rattle.template_compiler_code.proofs.marks.Marks.mark.Goals as goal

pub returns : goal.returns
returns c =
    let marks = c.args.self.now.entries.items in
    let clause = subst (λ ms. IsPartitionPoint (λ m. leb m.start c.args.index ≡ true) (λ m. leb m.start c.args.index ≡ false) ms c.partition_point-count.result)
    c.as_slice.ensures.value
    (IsPartitionPoint-from_clause (λ m. leb m.start c.args.index) _ _ c.partition_point-count.ensures.partitioned (IsPartitionedBy-leb (λ m. m.start) _ c.args.index (subst (λ ms. IsNonDecreasingBy (λ m. m.start) ms) (sym c.as_slice.ensures.value) c.args.self.now.ordered)) (λ a r q k. search rules)) in
    let bound = subst (λ ms. c.partition_point-count.result ≤ length ms) c.as_slice.ensures.value c.partition_point-count.ensures.bound in
    c.before-2.ensures ∙ sym (mark_at-first marks c.args.index c.partition_point-count.result bound clause)
