-- The numbers that `range` gives of bounds and a step.
use Rattle.std.specs.Prelude.{ℤ, pos, Option, None, Some, unwrap_or, Result}
use Rattle.template_values_errors.specs.declared.ErrorKind.{ErrorKind}
use Rattle.template_values_model.specs.Val.{Val}
use Rattle.template_machine_meaning.specs.Functions.{range_by}

-- from 0 where there is one bound alone, by steps of 1 where none is given
abbrev pub range_from : ℤ → Option ℤ → Option ℤ → Result Val ErrorKind
range_from lower None step = range_by (Some (pos 0)) (Some lower) (Some (unwrap_or step (pos 1)))
range_from lower (Some upper) step = range_by (Some lower) (Some upper) (Some (unwrap_or step (pos 1)))
