use Rattle.std.proofs.Common.{rules, ltb}
use Rattle.std.proofs.lemmas.List.Sorted.{IsPartitionPoint-from_clause}
use Rattle.template_compiler_code.proofs.numbered.count_before.Goals as goal

pub returns-clause-count : goal.returns-clause-count
returns-clause-count c parted =
    IsPartitionPoint-from_clause (λ p. ltb p c.args.place) _ _ c.partition_point.ensures.partitioned parted (λ a r q k. search rules)
