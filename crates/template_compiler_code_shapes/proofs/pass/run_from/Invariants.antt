use Rattle.std.proofs.Common.{◌≡◌, ◌-◌, ◌≤◌, length}
use Rattle.std.specs.Prelude.{option_map}
use Rattle.template_compiler_code.specs.Listing.{code_in}
use Rattle.template_compiler_code_shapes.specs.Outlines.{shape_of}
use Rattle.template_compiler_code_shapes.specs.Passes.{Works}
use Rattle.template_compiler_code_shapes.specs.Desks.{noted_in, waiting_in, flag_in, room_in, weight_of}
use Rattle.template_compiler_code_shapes.proofs.pass.run_from.Given as goal

abbrev pub invariant-loop-hand : goal.invariant-loop-hand
invariant-loop-hand l =
    let code = code_in l.code in
    record {
      works : Works code (flag_in l.marks) (noted_in l.desk) (flag_in l.seen.items) (waiting_in l.desk) l.place (option_map shape_of l.hand);
      room : room_in l.desk ≡ room_in l.fn.desk;
      seen : length l.seen.items ≡ length l.fn.seen.items;
      lighter : weight_of l.desk ≤ weight_of l.fn.desk;
    }

abbrev pub decreases-loop-hand : goal.decreases-loop-hand
decreases-loop-hand l = length (code_in l.code) - l.place
