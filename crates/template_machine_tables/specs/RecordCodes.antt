-- The records of a run are told apart by their parts.
use Rattle.std.specs.Prelude.{ℕ, Bool, List, Option, refl}
use Rattle.std.specs.Coded.{Coded, code_by, coded×, coded_ℕ, coded_bool, coded_list, coded_option}
use Rattle.template_values_model.specs.Val.{Val}
use Rattle.template_values_core.specs.Code.{val_code}
use Rattle.template_machine_meaning.specs.Keys.{Stream}
use Rattle.template_machine_meaning.specs.World.{Macro}
use Rattle.template_machine_tables.specs.Codes.{stream_code}

abbrev pub entries_code : Coded (List (Val × Val))
entries_code = coded_list (coded× val_code val_code)

abbrev pub namespaces_code : Coded (List (List (Val × Val)))
namespaces_code = coded_list entries_code

abbrev pub call_code : Coded (ℕ × List Val)
call_code = coded× coded_ℕ (coded_list val_code)

abbrev pub given_code : Coded (List (ℕ × List Val))
given_code = coded_list call_code

abbrev pub macro_code : Coded Macro
macro_code =
    code_by ((List ℕ × (List Val × Bool)) × (Stream × (ℕ × Option ℕ)))
    (coded× (coded× (coded_list coded_ℕ) (coded× (coded_list val_code) coded_bool)) (coded× stream_code (coded× coded_ℕ (coded_option coded_ℕ))))
    (λ m. ((m.name, (m.arguments, m.caller)), (m.stream, (m.number, m.closure))))
    (λ p. record {
      name = p.0.0;
      arguments = p.0.1.0;
      caller = p.0.1.1;
      stream = p.1.0;
      number = p.1.1.0;
      closure = p.1.1.1;
    }) (λ _. refl)
