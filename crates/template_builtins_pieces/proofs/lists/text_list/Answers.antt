use Rattle.std.proofs.Common.{◌≡◌, arith}
use Rattle.template_values_model.specs.Val.{vals_of}
use Rattle.template_values_core.specs.Depth.{vals_depth}
use Rattle.template_builtins_texts.proofs.Flat.{texts_depth}
use Rattle.template_builtins_pieces.specs.Reading.{all_shown}
use Rattle.template_builtins_pieces.proofs.lists.text_list.Goals as goal

pub shallow_list-requires : goal.shallow_list-requires
shallow_list-requires c =
    let flat : vals_depth (vals_of c.in_ok-items.items.items) ≡ 0 = rw c.in_ok-items.ensures.made (texts_depth c.args.safe (all_shown c.args.parts.now)) in
    omega arith
