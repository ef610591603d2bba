use Rattle.std.proofs.Common.{◌≡◌, ◌+◌, ◌-◌, ◌≤◌, length, IsUtf8}
use Rattle.template_builtins_texts.specs.Replacing.{parts_between}
use Rattle.template_builtins_methods.proofs.places.times_apart.Given as goal

-- there was a place for each part that is not between those of the rest
abbrev pub invariant-loop-after : goal.invariant-loop-after
invariant-loop-after l =
    IsUtf8 l.rest
    × (l.count + length l.rest ≤ length l.text)
    × (l.count + length (parts_between l.part (length l.text - l.count) l.rest) ≡ length (parts_between l.part (length l.text) l.text))

abbrev pub decreases-loop-after : goal.decreases-loop-after
decreases-loop-after l = length l.rest
