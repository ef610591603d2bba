-- The bytes so far are what the reader gave, they are within the limit, and no read has failed.
use Rattle.std.proofs.Common.{◌≡◌, ◌≤◌, ◌-◌, false, vec_len}
use Rattle.std.specs.Io.KnownBytes.{Consumes}
use Rattle.template_program_parts.proofs.whole.read_whole.Given as goal

abbrev pub invariant-loop-piece : goal.invariant-loop-piece
invariant-loop-piece g l =
    (vec_len l.bytes ≤ l.limit)
    × (g.S.Source.has_failed l.source ≡ g.S.Source.has_failed l.initial.source)
    × Consumes (g.S.Source.remaining l.initial.source) (g.S.Source.remaining l.source) l.bytes.items
    × (g.S.Source.may_fail l.initial.source ≡ false → g.S.Source.may_fail l.source ≡ false)

abbrev pub decreases-loop-piece : goal.decreases-loop-piece
decreases-loop-piece g l = l.limit - vec_len l.bytes
