use Rattle.std.proofs.Common.{◌≡◌, [], true}
use Rattle.std.specs.Prelude.{take}
use Rattle.template_values_named.specs.Named.{with_all_named}
use Rattle.template_machine_meaning.specs.OwnFunctions.{own_values}
use Rattle.template_machine_tables.proofs.globals.Globals.with_functions.Given as goal

abbrev pub invariant-loop-function : goal.invariant-loop-function
invariant-loop-function l =
    l.globals ≡ record { environment = l.fn.id; has_own = true; named = with_all_named (take l.function-index (own_values l.fn.id)) [] }
