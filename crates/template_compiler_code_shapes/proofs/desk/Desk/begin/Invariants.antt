use Rattle.std.proofs.Common.{◌≡◌, ℕ, Some, length}
use Rattle.template_compiler_code_shapes.specs.Shapes.{Shape, start}
use Rattle.template_compiler_code_shapes.specs.Desks.{slot_in}
use Rattle.template_compiler_code_shapes.proofs.desk.Desk.begin.Given as goal

abbrev pub invariant-loop-count : goal.invariant-loop-count
invariant-loop-count l = record {
  count : length l.slots.items ≡ l.count;
  first : slot_in l.slots.items 0 ≡ Some start;
  only : (q : ℕ) (s : Shape) → slot_in l.slots.items q ≡ Some s → (q ≡ 0) × (s ≡ start);
}
