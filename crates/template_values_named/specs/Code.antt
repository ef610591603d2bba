-- Pairs are told apart by the keyword map that they make.
use Rattle.std.specs.Prelude.{refl}
use Rattle.std.specs.Coded.{Coded, code_by}
use Rattle.template_values_model.specs.Val.{Val, Pairs, keyword_map}
use Rattle.template_values_core.specs.Code.{val_code}
use Rattle.template_values_named.specs.Keywords.{keyword_pairs}

abbrev pub pairs_code : Coded Pairs
pairs_code = code_by Val val_code keyword_map keyword_pairs (λ ps. refl)
