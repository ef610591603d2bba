-- The changes of what stands in an environment: those of a history.
use Rattle.template_compiled.specs.Sources.{Source}
use Rattle.template_machine_environment_histories.specs.Histories.{Change, Leads}
use Rattle.template_machine_environment.specs.Reading.{registry_of}
use Rattle.template_machine_environment.specs.Standing.{source_at}
use Rattle.template_machine_environment.specs.declared.environment.Environment.{Environment}

module _ {E C M F J R : Type 0} where
  -- the change leads from the one environment to the other
  abbrev pub Changes : Change Source → Environment E C M F J R → Environment E C M F J R → Type 0
  Changes change old new = Leads (λ e. source_at (registry_of e)) change old new
