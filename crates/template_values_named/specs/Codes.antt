-- Names with their values are told apart by their parts.
use Rattle.std.specs.Prelude.{ℕ, List}
use Rattle.std.specs.Coded.{Coded, coded×, coded_ℕ, coded_list}
use Rattle.template_values_model.specs.Val.{Val}
use Rattle.template_values_core.specs.Code.{val_code}

abbrev pub named_code : Coded (List (List ℕ × Val))
named_code = coded_list (coded× (coded_list coded_ℕ) val_code)
