use Rattle.std.proofs.Common.{◌≡◌, drop}
use Rattle.std.specs.Str.{bytes_eq}
use Rattle.template_values_core.proofs.names.has_same_bytes.Given as goal

-- the bytes that were passed are equal
abbrev pub invariant-loop-place : goal.invariant-loop-place
invariant-loop-place l = bytes_eq l.bytes l.others ≡ bytes_eq (drop l.place l.bytes) (drop l.place l.others)
