-- The values so far are JSON.
use Rattle.std.proofs.Common.{◌≢◌, All, None, take}
use Rattle.template_values_json.specs.Contexts.{tree_of}
use Rattle.template_program_run.proofs.values.check_values.Given as goal

abbrev pub invariant-loop-value : goal.invariant-loop-value
invariant-loop-value l = All (λ value. tree_of value.text.now ≢ None) (take l.value-index l.values)
