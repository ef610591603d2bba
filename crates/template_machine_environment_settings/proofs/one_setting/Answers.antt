use Rattle.template_machine_environment_settings.proofs.Settings as laws
use Rattle.template_machine_environment_settings.proofs.one_setting.Goals as goal

pub returns : goal.returns
returns c = record { setting = laws.one_setting; renders = laws.same_renders }
