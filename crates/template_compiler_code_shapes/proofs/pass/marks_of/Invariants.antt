use Rattle.std.proofs.Common.{◌≡◌, ℕ, suc, ◌<◌, ◌≤◌, length, Some, true, slice_get}
use Rattle.template_compiler_code.specs.Code.{Code}
use Rattle.template_compiler_code.specs.Listing.{code_in}
use Rattle.template_compiler_code_shapes.specs.Effects.{aim_of}
use Rattle.template_compiler_code_shapes.specs.Desks.{flag_in}
use Rattle.template_compiler_code_shapes.proofs.pass.marks_of.Given as goal

abbrev pub invariant-loop-place : goal.invariant-loop-place
invariant-loop-place l =
    let code = code_in l.code in
    record {
      count : length l.marks.items ≡ suc (length code);
      end : l.len ≡ length code;
      first : flag_in l.marks.items 0 ≡ true;
      last : flag_in l.marks.items (length code) ≡ true;
      aims : (place to : ℕ) (c : Code) → place < l.place → slice_get code place ≡ Some c → aim_of c ≡ Some to → to ≤ length code → flag_in l.marks.items to ≡ true;
    }
