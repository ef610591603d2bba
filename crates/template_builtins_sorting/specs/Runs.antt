-- What a run holds.
use Rattle.std.specs.Prelude.{List}
use Rattle.template_values_model.specs.Val.{Val}
use Rattle.template_builtins_sorting.specs.declared.alike.Run.{Run}

-- the first item, and all of them
abbrev pub held_by : Run → Val × List Val
held_by run = (run.first, run.items.items)
