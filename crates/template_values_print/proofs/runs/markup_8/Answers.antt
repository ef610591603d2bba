use Rattle.std.proofs.Common.{arith, refl}
use Rattle.std.proofs.lemmas.Simd.{zip2_of_maps}
use lib.Bits.{bit_or}
use Rattle.template_values_print.specs.Runs.{is_markup}
use Rattle.template_values_print.proofs.LaneLemmas.{lanes_with_bit, masked}
use Rattle.template_values_print.proofs.runs.markup_8.Goals as goal

pub returns : goal.returns
returns c =
    let v = c.args.lanes in
    let long = c.fits-lanes.0 in
    masked _ is_markup v _ (omega arith) c.fits-lanes.1 (zip2_of_maps bit_or _ _ v (zip2_of_maps bit_or _ _ v (lanes_with_bit v 8 2 62 long) (lanes_with_bit v 8 4 38 long)) (lanes_with_bit v 8 8 47 long)) refl
