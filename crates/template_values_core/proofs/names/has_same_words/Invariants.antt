use Rattle.std.proofs.Common.{◌≡◌, ◌-◌, drop}
use Rattle.std.specs.Str.{bytes_eq}
use Rattle.template_values_core.proofs.names.has_same_words.Given as goal

-- the words that were passed are equal
abbrev pub invariant-loop-place : goal.invariant-loop-place
invariant-loop-place l = bytes_eq l.bytes l.others ≡ bytes_eq (drop l.place l.bytes) (drop l.place l.others)

abbrev pub decreases-loop-place : goal.decreases-loop-place
decreases-loop-place l = l.last - l.place
