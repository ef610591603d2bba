use Rattle.std.proofs.Common.{◌≤◌, ◌-◌, length, arith, string_bytes}
use Rattle.template_compiler_names.proofs.Sets.{join_more}
use Rattle.template_compiler_names.proofs.state.join.Goals as goal

pub loop-left-preserved : goal.loop-left-preserved
loop-left-preserved c =
    let inside : c.loop-left.left ≤ length c.args.behind.now = c.loop-left.invariant.within in
    let tested = c.loop-left-test.true in
    record {
      within = omega (arith, inside);
      so_far = join_more c.args.behind.now c.loop-left.left (c.loop-left.left - 1) _ (string_bytes c.loop-left.text)
          (string_bytes c.push_str-in-loop-left.new.self) (string_bytes c.push_str-in-loop-left-2.new.self) _ (omega (arith, tested)) (omega (arith, inside, tested))
          c.in_ok-push_str-2.ensures.bytes c.in_ok-push_str-3.ensures.bytes c.loop-left.invariant.so_far;
    }
