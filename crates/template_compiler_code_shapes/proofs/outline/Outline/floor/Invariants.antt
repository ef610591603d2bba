use Rattle.std.proofs.Common.{◌≡◌, ◌≤◌, length, reverse, take}
use Rattle.template_compiler_code_shapes.specs.Shapes.{floor_of}
use Rattle.template_compiler_code_shapes.proofs.outline.Outline.floor.Given as goal

abbrev pub invariant-loop-place : goal.invariant-loop-place
invariant-loop-place l = (l.place ≤ length l.self.frames.items) × (floor_of (reverse (take l.place l.self.frames.items)) ≡ floor_of (reverse l.self.frames.items))

abbrev pub decreases-loop-place : goal.decreases-loop-place
decreases-loop-place l = l.place
