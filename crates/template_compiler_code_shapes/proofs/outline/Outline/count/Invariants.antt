use Rattle.std.proofs.Common.{◌≡◌, ◌≤◌, ◌+◌, length, reverse, take}
use Rattle.template_compiler_code_shapes.specs.Outlines.{count_under}
use Rattle.template_compiler_code_shapes.proofs.outline.Outline.count.Given as goal

abbrev pub invariant-loop-place : goal.invariant-loop-place
invariant-loop-place l = record {
  within : l.place ≤ length l.self.others.items;
  count : l.count + count_under (reverse (take l.place l.self.others.items)) ≡ l.self.values + count_under (reverse l.self.others.items);
}

abbrev pub decreases-loop-place : goal.decreases-loop-place
decreases-loop-place l = l.place
