use Rattle.template_machine_environment_settings.proofs.Agreeing as laws
use Rattle.template_machine_environment_settings.proofs.agreeing_histories.Goals as goal

pub returns : goal.returns
returns g c = record { setting = laws.agreeing_setting _ _ _ _ _ _ _; renders = laws.agreeing_renders _ _ _ _ _ _ _ }
