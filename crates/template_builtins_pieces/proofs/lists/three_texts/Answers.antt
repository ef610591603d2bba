use Rattle.std.proofs.Common.{◌≡◌, false, [], ◌∷◌, arith}
use Rattle.template_values_model.specs.Val.{vals_of}
use Rattle.template_values_core.specs.Depth.{vals_depth}
use Rattle.template_builtins_texts.proofs.Flat.{texts_depth}
use Rattle.template_builtins_pieces.proofs.lists.three_texts.Goals as goal

pub shallow_tuple-requires : goal.shallow_tuple-requires
shallow_tuple-requires c =
    let flat : vals_depth (vals_of c.in_ok-items.items.items) ≡ 0 = rw c.in_ok-items.ensures.made (texts_depth false (c.args.first.now ∷ (c.args.second.now ∷ (c.args.third.now ∷ [])))) in
    omega arith
