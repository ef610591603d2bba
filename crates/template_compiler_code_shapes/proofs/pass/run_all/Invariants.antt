use Rattle.std.proofs.Common.{◌≡◌, suc, length, None}
use Rattle.template_compiler_code.specs.Listing.{code_in}
use Rattle.template_compiler_code_shapes.specs.Passes.{Works}
use Rattle.template_compiler_code_shapes.specs.Desks.{noted_in, waiting_in, flag_in, room_in, weight_of}
use Rattle.template_compiler_code_shapes.proofs.pass.run_all.Given as goal

abbrev pub invariant-loop-at : goal.invariant-loop-at
invariant-loop-at l =
    let code = code_in l.code in
    record {
      works : Works code (flag_in l.marks) (noted_in l.desk) (flag_in l.seen.items) (waiting_in l.desk) 0 None;
      room : room_in l.desk ≡ suc (length code);
      seen : length l.seen.items ≡ length code;
    }

abbrev pub decreases-loop-at : goal.decreases-loop-at
decreases-loop-at l = weight_of l.desk
