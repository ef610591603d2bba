use Rattle.std.proofs.Common.{◌≡◌, ◌+◌, count_by, length}
use Rattle.template_compiler_tokens.specs.Bytes.{is_between}
use Rattle.template_compiler_tokens.proofs.counts.count_between.Given as goal

-- those that are left make up for those that were not counted
abbrev pub invariant-loop-rest : goal.invariant-loop-rest
invariant-loop-rest l = l.count + count_by (is_between l.low l.high) l.rest ≡ count_by (is_between l.low l.high) l.bytes

abbrev pub decreases-loop-rest : goal.decreases-loop-rest
decreases-loop-rest l = length l.rest
