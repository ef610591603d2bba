use Rattle.std.proofs.Common.{◌≡◌, true, false, ltb, sym, subst, ◌∙◌, rules}
use Rattle.std.specs.List.Sorted.{IsNonDecreasingBy, IsPartitionPoint}
use Rattle.std.proofs.lemmas.List.Sorted.{IsPartitionPoint-from_clause, IsPartitionedBy-ltb}
use Rattle.template_compiler_code.proofs.Marking.{filter-first}
use Rattle.template_compiler_code.proofs.marks.Marks.truncate.Goals as goal

pub returns : goal.returns
returns c =
    let marks = c.args.self.now.entries.items in
    let clause = subst (λ ms. IsPartitionPoint (λ m. ltb m.start c.args.len ≡ true) (λ m. ltb m.start c.args.len ≡ false) ms c.partition_point-count.result)
    c.as_slice.ensures.value
    (IsPartitionPoint-from_clause (λ m. ltb m.start c.args.len) _ _ c.partition_point-count.ensures.partitioned (IsPartitionedBy-ltb (λ m. m.start) _ c.args.len (subst (λ ms. IsNonDecreasingBy (λ m. m.start) ms) (sym c.as_slice.ensures.value) c.args.self.now.ordered)) (λ a r q k. search rules)) in
    c.truncate.ensures.items ∙ filter-first marks c.args.len c.partition_point-count.result clause
