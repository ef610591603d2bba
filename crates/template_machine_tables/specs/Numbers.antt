-- The numbers of the functions that an environment has by itself.
use Rattle.std.specs.Prelude.{ℕ}
use Rattle.template_machine_tables.specs.declared.functions.OwnFunction.{OwnFunction}
use Rattle.template_machine_tables.specs.declared.functions.OwnFunction.TheVariants.{Range, Dict, Namespace}

abbrev pub number_of : OwnFunction → ℕ
number_of Range = 0
number_of Dict = 1
number_of Namespace = 2
