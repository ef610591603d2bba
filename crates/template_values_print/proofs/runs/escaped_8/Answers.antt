use Rattle.std.proofs.Common.{arith, refl}
use Rattle.std.proofs.lemmas.Simd.{zip2_of_maps, zip2_splat}
use lib.Bits.{bit_or}
use Rattle.template_values_print.specs.Runs.{is_escaped}
use Rattle.template_values_print.proofs.LaneLemmas.{below, hit, masked}
use Rattle.template_values_print.proofs.runs.escaped_8.Goals as goal

pub returns : goal.returns
returns c =
    let v = c.args.lanes in
    let long = c.fits-lanes.0 in
    masked _ is_escaped v _ (omega arith) c.fits-lanes.1 (zip2_of_maps bit_or _ _ v (zip2_of_maps bit_or _ _ v (zip2_of_maps bit_or _ _ v (zip2_splat hit v 8 34 long) (zip2_splat hit v 8 92 long)) (zip2_splat hit v 8 127 long)) (zip2_splat below v 8 32 long)) refl
